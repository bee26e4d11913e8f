-- How far threads are apart, and for whom the collector waits.
use Rattle.std.proofs.Common.{◌≡◌, ◌↔◌, ℕ, zero, suc, Bool, true, false, not, ◌||◌, ◌&&◌, List, [], ◌∷◌, Option, Some, None, slice_get, refl, inl, inr, sym, ap, ◌∙◌}
use Rattle.std.specs.List.{list_all}
use Rattle.std.specs.Option.{option_map_or}
use Rattle.std.proofs.lemmas.Bool.{and_parts, false_from_ne_true, false≢true}
use Rattle.cil_model.specs.declared.phases.Phase.{Phase}
use Rattle.cil_model.specs.declared.phases.Phase.TheVariants.{Idle, Mark, Allocate, Copy, PreFlip, HeapFlip, ThreadFlip, Reclaim}
use Rattle.reference_machine.specs.Cycles.{phase_after}
use Rattle.phase_handshake.specs.declared.posts.Seat.{Seat}
use Rattle.phase_handshake.specs.Handshakes.{AreClose, AreNeighbours, Handshakes, IsClose, IsWaiting, all_answered, all_seen, has_answered, has_seen, is_open, is_open_to, is_phase, seat_of}
use Rattle.phase_handshake.proofs.Closeness.{passes_at, seat_here, seat_there}

-- ---- apart

-- the phase before one
abbrev before : Phase → Phase
before Idle = Reclaim
before Mark = Idle
before Allocate = Mark
before Copy = Allocate
before PreFlip = Copy
before HeapFlip = PreFlip
before ThreadFlip = HeapFlip
before Reclaim = ThreadFlip

before_after : (p : Phase) → before (phase_after p) ≡ p
before_after Idle = refl
before_after Mark = refl
before_after Allocate = refl
before_after Copy = refl
before_after PreFlip = refl
before_after HeapFlip = refl
before_after ThreadFlip = refl
before_after Reclaim = refl

-- two threads that are close to a post are close to one another
pub neighbours : (h : Handshakes) → AreClose h → (t u : ℕ) (s r : Seat) → seat_of h t ≡ Some s → seat_of h u ≡ Some r → AreNeighbours s.phase r.phase
neighbours h are t u s r one other = by_closeness (are.phases t s one) (are.phases u r other)
  where
    by_closeness : IsClose h s → IsClose h r → AreNeighbours s.phase r.phase
    by_closeness (inl here) (inl there) = inl (here ∙ sym there)
    by_closeness (inl here) (inr late) = inr (inr (late.0 ∙ sym here))
    by_closeness (inr late) (inl there) = inr (inl (late.0 ∙ sym there))
    by_closeness (inr late) (inr later) = inl (sym (before_after s.phase) ∙ ap before (late.0 ∙ sym later.0) ∙ before_after r.phase)

-- ---- waiting

-- where not all seats pass a test, one of a live thread does not
abbrev Fails : (Option Seat → Bool) → List (Option Seat) → Type 0
Fails test seats = (t : ℕ) × ((s : Seat) × ((slice_get seats t ≡ Some (Some s)) × (test (Some s) ≡ false)))

fails_at : (test : Option Seat → Bool) → test None ≡ true → (seats : List (Option Seat)) → list_all test seats ≡ false → Fails test seats
fails_at test none [] e = absurd (false≢true (sym e))
fails_at test none (None ∷ os) e =
    let further = fails_at test none os (sym (ap (λ b. b && list_all test os) none) ∙ e) in
    (suc further.0, further.1)
fails_at test none (Some s ∷ os) e = by_test (test (Some s)) refl (fails_at test none os)
  where
    by_test : (b : Bool) → test (Some s) ≡ b → (list_all test os ≡ false → Fails test os) → Fails test (Some s ∷ os)
    by_test false fails further = (zero, (s, (refl, fails)))
    by_test true passes further =
        let (t, found) = further (sym (ap (λ b. b && list_all test os) passes) ∙ e) in
        (suc t, found)

module _ (h : Handshakes) where
  or_true : (b : Bool) → (b || true) ≡ true
  or_true true = refl
  or_true false = refl

  -- a post is open to a thread whose seat it is open to
  open_here : (t : ℕ) (s : Seat) → slice_get h.seats t ≡ Some (Some s) → is_open_to h.posted_phase h.has_round s ≡ true → is_open h t ≡ true
  open_here t s there opened = ap (λ o. option_map_or (is_open_to h.posted_phase h.has_round) o false) (seat_here h t s there) ∙ opened

  late_is_open : (s : Seat) → is_phase s.phase h.posted_phase ≡ false → is_open_to h.posted_phase h.has_round s ≡ true
  late_is_open s late = ap (λ b. not b || (h.has_round && not s.answered)) late

  unanswered_is_open : (s : Seat) → h.has_round ≡ true → s.answered ≡ false → is_open_to h.posted_phase h.has_round s ≡ true
  unanswered_is_open s round none =
      ap (λ b. not (is_phase s.phase h.posted_phase) || (b && not s.answered)) round
      ∙ ap (λ b. not (is_phase s.phase h.posted_phase) || not b) none
      ∙ or_true (not (is_phase s.phase h.posted_phase))

  waits_for : IsWaiting h → (t : ℕ) × (is_open h t ≡ true)
  waits_for (inl unseen) = by_seat (fails_at (has_seen h.posted_phase) refl h.seats unseen)
    where
      by_seat : Fails (has_seen h.posted_phase) h.seats → (t : ℕ) × (is_open h t ≡ true)
      by_seat (t, (s, (there, late))) = (t, open_here t s there (late_is_open s late))
  waits_for (inr (round, unanswered)) = by_seat (fails_at has_answered refl h.seats unanswered)
    where
      by_seat : Fails has_answered h.seats → (t : ℕ) × (is_open h t ≡ true)
      by_seat (t, (s, (there, none))) = (t, open_here t s there (unanswered_is_open s round none))

  -- an open post of a seat keeps the collector waiting
  waits_by : (t : ℕ) (s : Seat) → slice_get h.seats t ≡ Some (Some s) → is_open_to h.posted_phase h.has_round s ≡ true → IsWaiting h
  waits_by t s there opened = by_test (is_phase s.phase h.posted_phase) refl
    where
      by_test : (b : Bool) → is_phase s.phase h.posted_phase ≡ b → IsWaiting h
      by_test false late = inl (false_from_ne_true (all_seen h) (λ all. false≢true (sym late ∙ passes_at (has_seen h.posted_phase) h.seats t s all there)))
      by_test true seen =
          let parts = and_parts h.has_round (not s.answered) (sym (ap (λ b. not b || (h.has_round && not s.answered)) seen) ∙ opened) in
          inr (parts.0, false_from_ne_true (all_answered h) (λ all. false≢true (sym (ap not (passes_at has_answered h.seats t s all there)) ∙ parts.1)))

  waits : (t : ℕ) × (is_open h t ≡ true) → IsWaiting h
  waits (t, opened) = by_seat (seat_of h t) refl
    where
      by_seat : (o : Option Seat) → seat_of h t ≡ o → IsWaiting h
      by_seat None e = absurd (false≢true (sym (ap (λ o. option_map_or (is_open_to h.posted_phase h.has_round) o false) e) ∙ opened))
      by_seat (Some s) e = waits_by t s (seat_there h t s e) (sym (ap (λ o. option_map_or (is_open_to h.posted_phase h.has_round) o false) e) ∙ opened)

  -- the collector waits exactly while a post is open to a thread
  pub waits_for_open : IsWaiting h ↔ (t : ℕ) × (is_open h t ≡ true)
  waits_for_open = (waits_for, waits)

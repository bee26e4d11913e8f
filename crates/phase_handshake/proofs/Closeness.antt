-- Each operation keeps threads and collector close.
use Rattle.std.proofs.Common.{◌≡◌, ◌⊎◌, ℕ, zero, suc, ◌==◌, Bool, true, false, not, ◌||◌, ◌&&◌, if◌then◌else◌, List, [], ◌∷◌, map, Option, Some, None, option_map, slice_get, slice_set, refl, inl, inr, sym, ap, ◌∙◌, subst}
use Rattle.std.specs.Prelude.{option_and_then}
use Rattle.std.specs.List.{list_all}
use Rattle.std.proofs.lemmas.Option.{same_Some, slice_get-map}
use Rattle.std.proofs.lemmas.Bool.{and_parts, eqb-true}
use Rattle.std.proofs.lemmas.List.{length-map, length-set}
use Rattle.cil_model.specs.declared.phases.Phase.{Phase}
use Rattle.cil_model.specs.declared.phases.Phase.TheVariants.{Idle, Mark, Allocate, Copy, PreFlip, HeapFlip, ThreadFlip, Reclaim}
use Rattle.cil_model.proofs.Lists.{none_is_some, set_or_was}
use Rattle.reference_machine.specs.Cycles.{phase_after}
use Rattle.phase_handshake.specs.declared.posts.Seat.{Seat}
use Rattle.phase_handshake.specs.Handshakes.{Handshakes, AreClose, IsClose, all_seen, has_seen, is_open_to, is_phase, join_thread, phase_number, leave_handshakes, posted_round, seat_after, seat_of, clear_answer, without_round}

-- ---- phases

-- two phases of one number are one
abbrev phase_of : ℕ → Phase
phase_of n = if n == 0 then Idle else if n == 1 then Mark else if n == 2 then Allocate else if n == 3 then Copy else if n == 4 then PreFlip else if n == 5 then HeapFlip else if n == 6 then ThreadFlip else Reclaim

phase_again : (p : Phase) → phase_of (phase_number p) ≡ p
phase_again Idle = refl
phase_again Mark = refl
phase_again Allocate = refl
phase_again Copy = refl
phase_again PreFlip = refl
phase_again HeapFlip = refl
phase_again ThreadFlip = refl
phase_again Reclaim = refl

pub same_phase : (p q : Phase) → is_phase p q ≡ true → p ≡ q
same_phase p q e = sym (phase_again p) ∙ ap phase_of (eqb-true (phase_number p) (phase_number q) e) ∙ phase_again q

-- a phase isn't the one before it
pub one_before : (p : Phase) → is_phase p (phase_after p) ≡ false
one_before Idle = refl
one_before Mark = refl
one_before Allocate = refl
one_before Copy = refl
one_before PreFlip = refl
one_before HeapFlip = refl
one_before ThreadFlip = refl
one_before Reclaim = refl

-- ---- seats

-- a post is open to a thread that is in the phase before
pub late_is_close : (h : Handshakes) (s : Seat) → phase_after s.phase ≡ h.posted_phase → IsClose h s
late_is_close h s late = inr (late, ap (λ b. not b || (h.has_round && not s.answered)) (ap (is_phase s.phase) (sym late) ∙ one_before s.phase))

-- the seat at an index is there
pub seat_there : (h : Handshakes) (t : ℕ) (s : Seat) → seat_of h t ≡ Some s → slice_get h.seats t ≡ Some (Some s)
seat_there h t s e = by_index (slice_get h.seats t) refl
  where
    by_index : (o : Option (Option Seat)) → slice_get h.seats t ≡ o → o ≡ Some (Some s)
    by_index None is = none_is_some s (sym (ap (option_and_then (λ (x : Option Seat). x)) is) ∙ e)
    by_index (Some o) is = ap Some (sym (ap (option_and_then (λ (x : Option Seat). x)) is) ∙ e)

pub seat_here : (h : Handshakes) (t : ℕ) (s : Seat) → slice_get h.seats t ≡ Some (Some s) → seat_of h t ≡ Some s
seat_here h t s e = ap (option_and_then (λ (x : Option Seat). x)) e

-- ---- other seats

module _ (h : Handshakes) (are : AreClose h) where
  -- a seat that is close in place of one, or none
  with_seat : (t : ℕ) (o : Option Seat) → ((s : Seat) → o ≡ Some s → IsClose h s × (s.answered ≡ true → h.has_round ≡ true)) → AreClose (record h { seats = slice_set h.seats t o })
  with_seat t o fits = record {
    indices = length-set h.seats t o ∙ are.indices;
    phases = λ u s e. (each u s e).0;
    answers = λ u s e. (each u s e).1;
  }
    where
      each : (u : ℕ) (s : Seat) → seat_of (record h { seats = slice_set h.seats t o }) u ≡ Some s → IsClose h s × (s.answered ≡ true → h.has_round ≡ true)
      each u s e = by_index (set_or_was h.seats t u o (Some s) (seat_there (record h { seats = slice_set h.seats t o }) u s e))
        where
          by_index : (Some s ≡ o) ⊎ (slice_get h.seats u ≡ Some (Some s)) → IsClose h s × (s.answered ≡ true → h.has_round ≡ true)
          by_index (inl new) = fits s (sym new)
          by_index (inr old) = (are.phases u s (seat_here h u s old), are.answers u s (seat_here h u s old))

  -- a thread leaves
  pub left_close : (t : ℕ) → AreClose (leave_handshakes h t)
  left_close t = with_seat t None (λ s e. none_is_some s e)

  -- a thread joins
  pub joined_close : (t starter : ℕ) → AreClose (join_thread h t starter)
  joined_close t starter = with_seat t (seat_of h starter) (λ s e. (are.phases starter s e, are.answers starter s e))

  -- the seat of a thread that acknowledges
  after_fits : (s : Seat) → is_open_to h.posted_phase h.has_round s ≡ true → (s.answered ≡ true → h.has_round ≡ true) → IsClose h (seat_after h.posted_phase s) × ((seat_after h.posted_phase s).answered ≡ true → h.has_round ≡ true)
  after_fits s opened answers = by_test (is_phase s.phase h.posted_phase) refl
    where
      by_test : (b : Bool) → is_phase s.phase h.posted_phase ≡ b → IsClose h (seat_after h.posted_phase s) × ((seat_after h.posted_phase s).answered ≡ true → h.has_round ≡ true)
      by_test true e =
          let after : seat_after h.posted_phase s ≡ record s { answered = true } = ap (λ b. if b then record s { answered = true } else record s { phase = h.posted_phase }) e in
          let round : (h.has_round && not s.answered) ≡ true = sym (ap (λ b. not b || (h.has_round && not s.answered)) e) ∙ opened in
          (inl (ap (λ (x : Seat). x.phase) after ∙ same_phase s.phase h.posted_phase e), λ after_answers. (and_parts h.has_round (not s.answered) round).0)
      by_test false e =
          let after : seat_after h.posted_phase s ≡ record s { phase = h.posted_phase } = ap (λ b. if b then record s { answered = true } else record s { phase = h.posted_phase }) e in
          (inl (ap (λ (x : Seat). x.phase) after), λ after_answers. answers (sym (ap (λ (x : Seat). x.answered) after) ∙ after_answers))

  pub answered_close : (t : ℕ) (s : Seat) → seat_of h t ≡ Some s → is_open_to h.posted_phase h.has_round s ≡ true → AreClose (record h { seats = slice_set h.seats t (Some (seat_after h.posted_phase s)) })
  answered_close t s here opened = with_seat t (Some (seat_after h.posted_phase s)) (λ r e. subst (λ (x : Seat). IsClose h x × (x.answered ≡ true → h.has_round ≡ true)) (same_Some (seat_after h.posted_phase s) r e) (after_fits s opened (are.answers t s here)))

-- ---- posts

-- the seat of a thread without its answer, and with it
seat_before : (h : Handshakes) (t : ℕ) (s : Seat) → slice_get (map clear_answer h.seats) t ≡ Some (Some s) → (r : Seat) × (seat_of h t ≡ Some r) × (s ≡ record r { answered = false })
seat_before h t s e = by_index (slice_get h.seats t) refl
  where
    found : option_map clear_answer (slice_get h.seats t) ≡ Some (Some s)
    found = sym (slice_get-map clear_answer h.seats t) ∙ e

    by_index : (o : Option (Option Seat)) → slice_get h.seats t ≡ o → (r : Seat) × (seat_of h t ≡ Some r) × (s ≡ record r { answered = false })
    by_index None is = none_is_some (Some s) (sym (ap (option_map clear_answer) is) ∙ found)
    by_index (Some None) is = none_is_some s (same_Some None (Some s) (sym (ap (option_map clear_answer) is) ∙ found))
    by_index (Some (Some r)) is =
        (r, seat_here h t r is, sym (same_Some (record r { answered = false }) s (same_Some (Some (record r { answered = false })) (Some s) (sym (ap (option_map clear_answer) is) ∙ found))))

-- the seat at an index passes a test that all seats pass
pub passes_at : (test : Option Seat → Bool) (seats : List (Option Seat)) (t : ℕ) (s : Seat) → list_all test seats ≡ true → slice_get seats t ≡ Some (Some s) → test (Some s) ≡ true
passes_at test [] t s all e = none_is_some (Some s) e
passes_at test (o ∷ os) zero s all e = subst (λ x. test x ≡ true) (same_Some o (Some s) e) (and_parts _ _ all).0
passes_at test (o ∷ os) (suc t) s all e = passes_at test os t s (and_parts _ _ all).1 e

module _ (h : Handshakes) (are : AreClose h) where
  -- a round is posted
  pub round_close : AreClose (posted_round h)
  round_close = record {
    indices = length-map h.seats clear_answer ∙ are.indices;
    phases = λ t s e. close_still t s (seat_before h t s (seat_there (posted_round h) t s e));
    answers = λ t s e answered. refl;
  }
    where
      close_still : (t : ℕ) (s : Seat) → (r : Seat) × (seat_of h t ≡ Some r) × (s ≡ record r { answered = false }) → IsClose (posted_round h) s
      close_still t s (r, here, is) = by_closeness (are.phases t r here)
        where
          by_closeness : IsClose h r → IsClose (posted_round h) s
          by_closeness (inl same) = inl (ap (λ (x : Seat). x.phase) is ∙ same)
          by_closeness (inr late) = late_is_close (posted_round h) s (ap (λ (x : Seat). phase_after x.phase) is ∙ late.0)

  -- the next phase is posted, once all have seen the posted one
  module _ (seen : all_seen h ≡ true) where
    was_posted : (t : ℕ) (s : Seat) → seat_of h t ≡ Some s → s.phase ≡ h.posted_phase
    was_posted t s e = same_phase s.phase h.posted_phase (passes_at (has_seen h.posted_phase) h.seats t s seen (seat_there h t s e))

    pub phase_close : AreClose (record h { posted_phase = phase_after h.posted_phase })
    phase_close = record {
      indices = are.indices;
      phases = λ t s e. late_is_close (record h { posted_phase = phase_after h.posted_phase }) s (ap phase_after (was_posted t s e));
      answers = are.answers;
    }

    abbrev cycle : Handshakes
    cycle = record (without_round h) { posted_phase = phase_after h.posted_phase }

    pub cycle_close : AreClose (record (without_round h) { posted_phase = phase_after h.posted_phase })
    cycle_close = record {
      indices = length-map h.seats clear_answer ∙ are.indices;
      phases = λ t s e. close_still t s (seat_before h t s (seat_there cycle t s e));
      answers = λ t s e answered. decoded_before t s answered (seat_before h t s (seat_there cycle t s e));
    }
      where
        close_still : (t : ℕ) (s : Seat) → (r : Seat) × (seat_of h t ≡ Some r) × (s ≡ record r { answered = false }) → IsClose cycle s
        close_still t s (r, here, is) = late_is_close cycle s (ap (λ (x : Seat). phase_after x.phase) is ∙ ap phase_after (was_posted t r here))

        decoded_before : (t : ℕ) (s : Seat) → s.answered ≡ true → (r : Seat) × (seat_of h t ≡ Some r) × (s ≡ record r { answered = false }) → false ≡ true
        decoded_before t s answered (r, here, is) = sym (ap (λ (x : Seat). x.answered) is) ∙ answered

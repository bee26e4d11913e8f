-- What threads hold stays what they may hold: over marks, and where a cycle opens, a round or Allocate is posted.
use Rattle.std.proofs.Common.{◌≡◌, ℕ, Bool, true, false, refl, sym, subst, ◌∙◌}
use Rattle.std.specs.Prelude.{◌&&◌, not, if◌then◌else◌, Some}
use Rattle.std.proofs.lemmas.Bool.{and_parts}
use Rattle.cil_model.specs.declared.phases.Phase.{Phase}
use Rattle.cil_model.specs.declared.phases.Phase.TheVariants.{Idle, Mark, Allocate, ThreadFlip, Reclaim}
use Rattle.object_memory.specs.declared.addresses.Addr.{Addr}
use Rattle.object_memory.specs.Spaces.{Spaces, open_cycle}
use Rattle.object_memory.specs.Objects.{Objects}
use Rattle.phase_handshake.specs.Handshakes.{Handshakes, has_answered, posted_round, seat_of}
use Rattle.phase_handshake.specs.declared.posts.Seat.{Seat}
use Rattle.phase_handshake.proofs.Closeness.{passes_at, seat_there}
use Rattle.collector.specs.Phases.{is_live, is_marked_address, is_new_address}
use Rattle.collector.specs.MarkSteps.{is_closed}
use Rattle.collector.specs.Holds.{AnyLive, Hold, MarkedOnly, NewOnly, hold_of, is_flipping, is_marking, may_hold, passes, static_hold_of, static_may_hold}
use Rattle.collector.specs.declared.progress.Progress.{Progress}
use Rattle.collector.proofs.Addresses.Tests.{HoldMeans, hold_means, is_marked_only, is_new_live, marked_is_live, means_marked, may_hold_live, never, static_may_hold_live}
use Rattle.collector.proofs.Marks.MarkChanges.{AreDarker, AreDarker-same, darker_tests}
use Rattle.collector.proofs.PhaseChanges.Rounds.{HasClosed, is_closed-means}
use Rattle.collector.proofs.Addresses.GrowingBlocks.{live_stays, new_stays, passes_stays}

-- ---- who may hold what

no_end : (x : Bool) → (x && false) ≡ false
no_end true = refl
no_end false = refl

-- what is marked may be held by all in Mark
passes_marked : (posted_phase : Phase) (has_round : Bool) (m : Spaces) (hold : Hold) → HoldMeans posted_phase has_round m hold → posted_phase ≡ Mark → (a : Addr)
    → is_marked_address m a ≡ true → passes hold posted_phase m a ≡ true
passes_marked posted_phase has_round m AnyLive means e a h = subst (λ x. is_live x m a ≡ true) (sym e) (marked_is_live m a h)
passes_marked posted_phase has_round m MarkedOnly means e a h = h
passes_marked posted_phase has_round m NewOnly means e a h = never (subst (λ x. is_new_live x ≡ true) e means)

module _ (h : Handshakes) (m : Spaces) (seat : Seat) (a : Addr) where
  pub may_hold_marked : h.posted_phase ≡ Mark → is_marked_address m a ≡ true → may_hold h m seat a ≡ true
  may_hold_marked e marked = passes_marked h.posted_phase h.has_round m (hold_of h m.has_marked seat) (hold_means h m seat) e a marked

  -- a thread that isn't flipped, and that doesn't hold marked ones alone, may hold what is live
  pub may_hold_any : (is_flipping seat.phase && is_flipping h.posted_phase) ≡ false → is_marked_only h m seat ≡ false → is_live h.posted_phase m a ≡ true
      → may_hold h m seat a ≡ true
  may_hold_any early any live = rw (early, any) live

-- what a thread may hold it may hold still where more is marked, and where it doesn't hold marked ones alone then
pub held_again : (h k : Handshakes) (m n : Spaces) (seat next : Seat) → AreDarker m n → k.posted_phase ≡ h.posted_phase → next.phase ≡ seat.phase
    → is_marked_only k n next ≡ false → (a : Addr)
    → may_hold h m seat a ≡ true → may_hold k n next a ≡ true
held_again h k m n seat next darker posted_phase phase any a held = by_flip (is_flipping seat.phase && is_flipping h.posted_phase) refl
  where
    same : (is_flipping next.phase && is_flipping k.posted_phase) ≡ (is_flipping seat.phase && is_flipping h.posted_phase)
    same = rw (phase, posted_phase) refl

    by_flip : (b : Bool) → (is_flipping seat.phase && is_flipping h.posted_phase) ≡ b → may_hold k n next a ≡ true
    by_flip true e =
        let new : is_new_address m a ≡ true =
        subst (λ b. passes (if b then NewOnly else if is_marked_only h m seat then MarkedOnly else AnyLive) h.posted_phase m a ≡ true) e held in
        rw (same ∙ e) (new_stays m n (darker_tests m n darker) a new)
    by_flip false e =
        may_hold_any k n next a (same ∙ e) any
        (subst (λ x. is_live x n a ≡ true) (sym posted_phase) (live_stays m n (darker_tests m n darker) a h.posted_phase (may_hold_live h m seat a held)))

-- what a thread loads from a static field it may hold, where the static fields are scanned before a round is posted
pub static_loads : (h : Handshakes) (m : Spaces) (p : Progress) (seat : Seat) (number : ℕ)
    → (h.posted_phase ≡ Mark → h.has_round ≡ true → p.scanned_statics ≡ true) → (a : Addr)
    → static_may_hold h.posted_phase m p number a ≡ true → may_hold h m seat a ≡ true
static_loads h m p seat number scanned a held = by_flip (is_flipping seat.phase && is_flipping h.posted_phase) refl
  where
    live : is_live h.posted_phase m a ≡ true
    live = static_may_hold_live h.posted_phase m p number a held

    flipped : (posted_phase : Phase) → is_flipping posted_phase ≡ true → static_may_hold posted_phase m p number a ≡ true → is_new_address m a ≡ true
    flipped ThreadFlip e s = s
    flipped Reclaim e s = s
    flipped _ e s = never e

    marked : h.posted_phase ≡ Mark → h.has_round ≡ true → is_marked_address m a ≡ true
    marked e round =
        subst (λ b. passes (if b then MarkedOnly else AnyLive) Mark m a ≡ true) (scanned e round)
        (subst (λ x. static_may_hold x m p number a ≡ true) e held)

    by_mark : (b : Bool) → is_marked_only h m seat ≡ b → passes (if b then MarkedOnly else AnyLive) h.posted_phase m a ≡ true
    by_mark true e = let means = means_marked h m seat true e in marked means.0 means.1
    by_mark false e = live

    by_flip : (b : Bool) → (is_flipping seat.phase && is_flipping h.posted_phase) ≡ b → may_hold h m seat a ≡ true
    by_flip true e = rw e (flipped h.posted_phase (and_parts (is_flipping seat.phase) (is_flipping h.posted_phase) e).1 held)
    by_flip false e = rw e (by_mark (is_marked_only h m seat) refl)

-- a thread that acknowledges a phase before ThreadFlip may hold what it might before
pub phase_held : (h k : Handshakes) (m : Spaces) (seat next : Seat) → k.posted_phase ≡ h.posted_phase → k.has_round ≡ h.has_round → next.answered ≡ seat.answered
    → is_flipping h.posted_phase ≡ false
    → (a : Addr) → may_hold h m seat a ≡ true → may_hold k m next a ≡ true
phase_held h k m seat next posted_phase round answered early a held =
    rw (posted_phase, round, answered, early, no_end (is_flipping next.phase)) (rw (early, no_end (is_flipping seat.phase)) at held)

-- ---- marks

-- where something was marked since the newest round, no thread holds marked ones alone
noted_any : (h : Handshakes) (m : Spaces) (seat : Seat) → m.has_marked ≡ true → is_marked_only h m seat ≡ false
noted_any h m seat e = subst (λ b. (is_marking h.posted_phase && (h.has_round && (seat.answered && not b))) ≡ false) (sym e) (never_all (is_marking h.posted_phase) h.has_round seat.answered)
  where
    never_all : (x y z : Bool) → (x && (y && (z && false))) ≡ false
    never_all true true z = no_end z
    never_all _ _ z = refl

-- marks leave what threads may hold
pub stays_held : (h : Handshakes) (m n : Spaces) (seat : Seat) → AreDarker m n → (m.has_marked ≡ true → n.has_marked ≡ true) → (a : Addr)
    → may_hold h m seat a ≡ true → may_hold h n seat a ≡ true
stays_held h m n seat darker noted a held = by_marks m.has_marked n.has_marked refl refl
  where
    by_marks : (b c : Bool) → m.has_marked ≡ b → n.has_marked ≡ c → may_hold h n seat a ≡ true
    by_marks b true e f = held_again h h m n seat seat darker refl refl (noted_any h n seat f) a held
    by_marks true false e f = never (sym f ∙ noted e)
    by_marks false false e f =
        subst (λ b. passes (hold_of h b seat) h.posted_phase n a ≡ true) (e ∙ sym f)
        (passes_stays m n (darker_tests m n darker) a (hold_of h m.has_marked seat) h.posted_phase held)

-- and what a static field may hold
pub stays_held-static : (posted_phase : Phase) (m n : Spaces) (p : Progress) (number : ℕ) → AreDarker m n → (a : Addr)
    → static_may_hold posted_phase m p number a ≡ true → static_may_hold posted_phase n p number a ≡ true
stays_held-static posted_phase m n p number darker a held = passes_stays m n (darker_tests m n darker) a (static_hold_of posted_phase p number) posted_phase held

-- ---- a cycle opens

-- what a thread may hold between cycles it may hold where one opens
pub opened_held : (h k : Handshakes) (m : Spaces) (words : ℕ) (seat next : Seat) → h.posted_phase ≡ Idle → k.posted_phase ≡ Mark → k.has_round ≡ false → (a : Addr)
    → may_hold h m seat a ≡ true → may_hold k (open_cycle m words) next a ≡ true
opened_held h k m words seat next was now round a held =
    let live : is_live Idle m a ≡ true = subst (λ x. is_live x m a ≡ true) was (may_hold_live h m seat a held) in
    may_hold_any k (open_cycle m words) next a
    (rw now (no_end (is_flipping next.phase)))
    (rw (now, round) refl)
    (rw now live)

-- ---- a round is posted

-- no thread has answered it, and each may hold what it might before
pub round_held : (h : Handshakes) (m : Spaces) (seat : Seat) (a : Addr) → may_hold h m seat a ≡ true
    → may_hold (posted_round h) (record m { has_marked = false }) (record seat { answered = false }) a ≡ true
round_held h m seat a held =
    held_again h (posted_round h) m (record m { has_marked = false }) seat (record seat { answered = false })
    (AreDarker-same m (record m { has_marked = false }) refl refl refl) refl refl (no_end (is_marking h.posted_phase)) a held

-- ---- marking ends

module _ (p : Progress) (o : Objects) (h : Handshakes) (closed : is_closed p o h ≡ true) where
  -- where nothing is left to mark, each thread holds what is marked alone,
  pub closed_held : (t : ℕ) (seat : Seat) → seat_of h t ≡ Some seat → h.posted_phase ≡ Mark → (a : Addr) → may_hold h o.spaces seat a ≡ true
      → is_marked_address o.spaces a ≡ true
  closed_held t seat there posted_phase a held = subst (λ hold. passes hold h.posted_phase o.spaces a ≡ true) hold_is held
    where
      means : HasClosed p o h
      means = is_closed-means p o h closed

      answered : seat.answered ≡ true
      answered = passes_at has_answered h.seats t seat means.answered (seat_there h t seat there)

      hold_is : hold_of h o.spaces.has_marked seat ≡ MarkedOnly
      hold_is = rw (posted_phase, means.round, answered, means.clean, no_end (is_flipping seat.phase)) refl

  -- and so does each static field
  pub closed_held-static : (number : ℕ) (a : Addr) → static_may_hold Mark o.spaces p number a ≡ true → is_marked_address o.spaces a ≡ true
  closed_held-static number a held = subst (λ b. passes (if b then MarkedOnly else AnyLive) Mark o.spaces a ≡ true) (is_closed-means p o h closed).statics held

-- what is marked may be held once Allocate is posted
pub allocate_held : (k : Handshakes) (m : Spaces) (seat : Seat) → k.posted_phase ≡ Allocate → (a : Addr) → is_marked_address m a ≡ true
    → may_hold k m seat a ≡ true
allocate_held k m seat now a marked = may_hold_any k m seat a (rw now (no_end (is_flipping seat.phase))) (rw now refl) (rw now marked)

pub allocate_held-static : (m : Spaces) (p : Progress) (number : ℕ) (a : Addr) → is_marked_address m a ≡ true
    → static_may_hold Allocate m p number a ≡ true
allocate_held-static m p number a marked = marked

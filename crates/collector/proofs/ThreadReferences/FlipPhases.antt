-- What a thread that has acknowledged the posted phase may hold it may hold still when the next one is posted, from PreFlip to the end of the cycle.
use Rattle.std.proofs.Common.{◌≡◌, Bool, true, List, sym, subst}
use Rattle.std.specs.Prelude.{Option}
use Rattle.cil_model.specs.declared.phases.Phase.{Phase}
use Rattle.cil_model.specs.declared.phases.Phase.TheVariants.{HeapFlip, PreFlip, Reclaim, ThreadFlip}
use Rattle.object_memory.specs.declared.addresses.Addr.{Addr}
use Rattle.object_memory.specs.Spaces.{Spaces, close_cycle}
use Rattle.phase_handshake.specs.Handshakes.{Handshakes, posted_next}
use Rattle.phase_handshake.specs.declared.posts.Seat.{Seat}
use Rattle.collector.specs.Holds.{may_hold}
use Rattle.collector.proofs.PhaseChanges.FlipPhases.{is_flip}

module _ (has_round : Bool) (seats : List (Option Seat)) (answered : Bool) (m : Spaces) (a : Addr) where
  -- a phase is posted, and a thread has acknowledged it
  abbrev posts : Phase → Handshakes
  posts posted_phase = record { posted_phase = posted_phase; has_round = has_round; seats = seats }

  abbrev seat_in : Phase → Seat
  seat_in posted_phase = record { phase = posted_phase; answered = answered }

  -- with each phase by its name
  flip_by : (posted_phase : Phase) → is_flip posted_phase ≡ true → may_hold (posts posted_phase) m (seat_in posted_phase) a ≡ true → may_hold (posted_next (posts posted_phase)) m (seat_in posted_phase) a ≡ true
  flip_by PreFlip e held = held
  flip_by HeapFlip e held = held
  flip_by ThreadFlip e held = held
  flip_by _ e held = absurd cc

  -- after the last phase the new block is the only one
  end_by : (posted_phase : Phase) → posted_phase ≡ Reclaim → may_hold (posts posted_phase) m (seat_in posted_phase) a ≡ true → may_hold (posted_next (posts posted_phase)) (close_cycle m) (seat_in posted_phase) a ≡ true
  end_by Reclaim e held = held
  end_by _ e held = absurd cc

module _ (h : Handshakes) (seat : Seat) (seen : seat.phase ≡ h.posted_phase) (m : Spaces) (a : Addr) where
  abbrev seat_at : Phase → Seat
  seat_at x = record { phase = x; answered = seat.answered }

  -- the seat of a thread that has acknowledged the posted phase
  now : may_hold h m seat a ≡ true → may_hold h m (seat_at h.posted_phase) a ≡ true
  now held = subst (λ x. may_hold h m (seat_at x) a ≡ true) seen held

  -- the phases after PreFlip, HeapFlip and ThreadFlip
  pub flip_keeps_held : is_flip h.posted_phase ≡ true → may_hold h m seat a ≡ true → may_hold (posted_next h) m seat a ≡ true
  flip_keeps_held e held = subst (λ x. may_hold (posted_next h) m (seat_at x) a ≡ true) (sym seen) (flip_by h.has_round h.seats seat.answered m a h.posted_phase e (now held))

  -- the end of the cycle, after Reclaim
  pub end_keeps_held : h.posted_phase ≡ Reclaim → may_hold h m seat a ≡ true → may_hold (posted_next h) (close_cycle m) seat a ≡ true
  end_keeps_held e held = subst (λ x. may_hold (posted_next h) (close_cycle m) (seat_at x) a ≡ true) (sym seen) (end_by h.has_round h.seats seat.answered m a h.posted_phase e (now held))

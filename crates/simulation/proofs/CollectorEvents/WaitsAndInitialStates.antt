-- When the collector waits and when a cycle opens, and what an acknowledgement leaves open to its thread.
use Rattle.std.proofs.Common.{◌≡◌, ◌≢◌, ◌↔◌, inl, inr, ℕ, Bool, true, false, not, ◌&&◌, ◌||◌, if◌then◌else◌, Option, Some, None, slice_set, refl, sym, ap, ◌∙◌, subst}
use Rattle.std.specs.Prelude.{is_some}
use Rattle.std.specs.Option.{option_map_or}
use Rattle.std.proofs.lemmas.Bool.{and_parts, not-true, eq-eqb}
use Rattle.interpreter.specs.cil_model.declared.phases.Phase.{Phase}
use Rattle.interpreter.specs.cil_model.declared.phases.Phase.TheVariants.{Idle, Mark}
use Rattle.interpreter.specs.cil_model.declared.reports.Report.{Report}
use Rattle.interpreter.specs.cil_model.declared.reports.Report.TheVariants.{Absent, Acked, NothingPosted, Waiting, Worked}
use Rattle.interpreter.specs.threads_monitors.Threads.{is_live_at}
use Rattle.collector.specs.phase_handshake.Handshakes.{Handshakes, IsWaiting, acknowledge_phase, all_answered, all_seen, is_open, is_open_to, is_phase, own_phase, phase_number, seat_after, seat_of}
use Rattle.collector.specs.phase_handshake.declared.posts.Seat.{Seat}
use Rattle.collector.proofs.phase_handshake.Closeness.{same_phase}
use Rattle.simulation.specs.CollectorSteps.{acknowledgement, collect, work}
use Rattle.simulation.specs.MachineStates.{MachineState}
use Rattle.simulation.proofs.Threads.Seats.{own_seat}
use Rattle.simulation.proofs.CollectorEvents.EventCases.{IsWork, by_cases, posting, waits_for_round}
use Rattle.std.proofs.Math.Bool.{and-false}

-- ---- what the collector waits for

-- a transition that waits changes nothing, and there is a thread that it waits for
abbrev WaitsRightly : MachineState → MachineState × Report → Type 0
WaitsRightly c x = x.1 ≡ Waiting → IsWaiting c.posts × (x.0 ≡ c)

module _ (c : MachineState) where
  work_waits : (x : Phase) (after : MachineState × Report) → IsWork c x after → WaitsRightly (posting x c) after
  work_waits _ _ (waits_for_round late) e = (inr (let h = and_parts c.posts.has_round (not (all_answered c.posts)) late in (h.0, not-true (all_answered c.posts) h.1)), refl)
  work_waits _ _ _ e = absurd cc

  -- it waits for a thread that hasn't acknowledged the phase or answered the round
  pub waits_rightly : WaitsRightly c (collect c)
  waits_rightly = by_cases c (WaitsRightly c) (λ seen. work_waits c.posts.posted_phase) (λ late e. (inl late, refl))

  -- between cycles the next one opens
  pub opens_next : c.posts.posted_phase ≡ Idle → all_seen c.posts ≡ true → ((collect c).1 ≡ Worked) × ((collect c).0.posts.posted_phase ≡ Mark)
  opens_next idle seen = subst (λ (x : MachineState × Report). (x.1 ≡ Worked) × (x.0.posts.posted_phase ≡ Mark)) (sym opens) (refl, refl)
    where
      opens : collect c ≡ work Idle (record c { posts = record c.posts { posted_phase = Idle } })
      opens = ap (λ b. if◌then◌else◌ {A = MachineState × Report} b (work c.posts.posted_phase c) (c, Waiting)) seen ∙ ap (λ (x : Phase). work x (record c { posts = record c.posts { posted_phase = x } })) idle

-- ---- acknowledgements

-- it counts where something is open to the thread
pub acked_where_open : (c : MachineState) (t : ℕ) → (acknowledgement c t ≡ Acked) ↔ (is_open c.posts t ≡ true)
acked_where_open c t = by_open (is_open c.posts t)
  where
    by_open : (b : Bool) → ((if b then Acked else if is_live_at c.threads t then NothingPosted else Absent) ≡ Acked) ↔ (b ≡ true)
    by_open true = (λ e. refl, λ e. refl)
    by_open false = (λ e. by_live (is_live_at c.threads t) e, λ e. absurd cc)
      where
        by_live : (l : Bool) → (if l then NothingPosted else Absent) ≡ Acked → false ≡ true
        by_live true e = absurd cc
        by_live false e = absurd cc

module _ (h : Handshakes) (t : ℕ) (seat : Seat) (here : seat_of h t ≡ Some seat) where
  abbrev next : Seat
  next = seat_after h.posted_phase seat

  abbrev answered : Seat → Handshakes
  answered s = record h { seats = slice_set h.seats t (Some (seat_after h.posted_phase s)) }

  -- the posts then, by whether something was open
  posts_then : (b : Bool) → is_open_to h.posted_phase h.has_round seat ≡ b → acknowledge_phase h t ≡ (if b then answered seat else h)
  posts_then b is =
      ap (λ o. option_map_or {U = Handshakes} (λ (s : Seat). if is_open_to h.posted_phase h.has_round s then answered s else h) o h) here ∙ ap (λ x. if◌then◌else◌ {A = Handshakes} x (answered seat) h) is

  -- a thread in another phase is in the posted one then
  phase_then : is_phase seat.phase h.posted_phase ≡ false → own_phase (acknowledge_phase h t) t ≡ (acknowledge_phase h t).posted_phase
  phase_then late =
      subst (λ (k : Handshakes). own_phase k t ≡ k.posted_phase) (sym (posts_then true (ap (λ b. not b || (h.has_round && not seat.answered)) late)))
      (ap (λ o. option_map_or (λ (s : Seat). s.phase) o Idle) (own_seat h t next seat here) ∙ ap (λ b. (if◌then◌else◌ {A = Seat} b (record seat { answered = true }) (record seat { phase = h.posted_phase })).phase) late)

  -- to one in that phase nothing is open then
  shut_then : is_phase seat.phase h.posted_phase ≡ true → is_open (acknowledge_phase h t) t ≡ false
  shut_then seen = by_open (is_open_to h.posted_phase h.has_round seat) refl
    where
      now_shut : is_open_to h.posted_phase h.has_round next ≡ false
      now_shut =
          ap (λ b. is_open_to h.posted_phase h.has_round (if◌then◌else◌ {A = Seat} b (record seat { answered = true }) (record seat { phase = h.posted_phase }))) seen
          ∙ ap (λ b. not b || (h.has_round && false)) seen ∙ and-false h.has_round

      by_open : (b : Bool) → is_open_to h.posted_phase h.has_round seat ≡ b → is_open (acknowledge_phase h t) t ≡ false
      by_open true opened =
          subst (λ (k : Handshakes). is_open k t ≡ false) (sym (posts_then true opened)) (ap (λ o. option_map_or (is_open_to h.posted_phase h.has_round) o false) (own_seat h t next seat here) ∙ now_shut)
      by_open false shut =
          subst (λ (k : Handshakes). is_open k t ≡ false) (sym (posts_then false shut)) (ap (λ o. option_map_or (is_open_to h.posted_phase h.has_round) o false) here ∙ shut)

  own_is : own_phase h t ≡ seat.phase
  own_is = ap (λ o. option_map_or (λ (s : Seat). s.phase) o Idle) here

-- a thread that is live has a seat
module _ (h : Handshakes) (t : ℕ) (seated : is_some (seat_of h t) ≡ true) where
  pub acknowledges_phase : own_phase h t ≢ h.posted_phase → own_phase (acknowledge_phase h t) t ≡ (acknowledge_phase h t).posted_phase
  acknowledges_phase late = by_seat (seat_of h t) refl seated
    where
      by_test : (seat : Seat) → seat_of h t ≡ Some seat → (b : Bool) → is_phase seat.phase h.posted_phase ≡ b → own_phase (acknowledge_phase h t) t ≡ (acknowledge_phase h t).posted_phase
      by_test seat here true same = absurd (late (own_is h t seat here ∙ same_phase seat.phase h.posted_phase same))
      by_test seat here false other = phase_then h t seat here other

      by_seat : (o : Option Seat) → seat_of h t ≡ o → is_some o ≡ true → own_phase (acknowledge_phase h t) t ≡ (acknowledge_phase h t).posted_phase
      by_seat None none some = absurd cc
      by_seat (Some seat) here some = by_test seat here (is_phase seat.phase h.posted_phase) refl

  pub answers_once : own_phase h t ≡ h.posted_phase → is_open (acknowledge_phase h t) t ≡ false
  answers_once now = by_seat (seat_of h t) refl seated
    where
      by_seat : (o : Option Seat) → seat_of h t ≡ o → is_some o ≡ true → is_open (acknowledge_phase h t) t ≡ false
      by_seat None none some = absurd cc
      by_seat (Some seat) here some = shut_then h t seat here (eq-eqb (phase_number seat.phase) (phase_number h.posted_phase) (ap phase_number (sym (own_is h t seat here) ∙ now)))

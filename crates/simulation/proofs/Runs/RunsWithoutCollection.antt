-- In a run of steps alone nothing is collected: a birth is refused exactly beyond the words that all births so far have left of one space.
use Rattle.std.proofs.Common.{◌≡◌, ◌⊎◌, ◌+◌, ◌-◌, if◌then◌else◌, ℕ, zero, suc, true, false, IsTrue, List, [], ◌∷◌, Option, Some, None, length, option_and_then, option_map, replicate, slice_get, slice_set, refl, inl, inr, sym, ap, ◌∙◌, subst, arith}
use Rattle.std.specs.Prelude.{nat_le}
use Rattle.std.specs.List.{zip}
use Rattle.std.specs.Option.{option_map_or}
use Rattle.std.proofs.lemmas.Option.{same_Some}
use Rattle.interpreter.specs.cil_model.declared.events.Event.{Event}
use Rattle.interpreter.specs.cil_model.declared.events.Event.TheVariants.{Step, Ack, Gc}
use Rattle.interpreter.specs.cil_model.declared.limits.Limits.{Limits}
use Rattle.interpreter.specs.cil_model.declared.limits.TheConstants.{MOST_THREADS}
use Rattle.interpreter.specs.cil_model.declared.phases.Phase.{Phase}
use Rattle.interpreter.specs.cil_model.declared.phases.Phase.TheVariants.{Idle}
use Rattle.interpreter.specs.cil_model.declared.reports.Report.{Report}
use Rattle.interpreter.specs.cil_model.declared.reports.Report.TheVariants.{Ended as HasEnded}
use Rattle.interpreter.specs.cil_model.declared.trees.Code.{Code}
use Rattle.interpreter.specs.cil_model.declared.trees.Method.{Method}
use Rattle.interpreter.specs.cil_model.declared.trees.Tree.{Tree}
use Rattle.interpreter.specs.cil_model.declared.types.ClassName.{ClassName}
use Rattle.interpreter.specs.cil_model.Bodies.{code_of, entry_points}
use Rattle.interpreter.specs.cil_model.Ranges.{are_in_range}
use Rattle.interpreter.specs.cil_model.Typings.{IsAccepted}
use Rattle.interpreter.specs.reference_machine.Cycles.{room}
use Rattle.interpreter.specs.reference_machine.Rooms.{ExceedsRoom, RefusesBeyondRoom as RefusesBeyondOneSpace, cell_words, spaces, words_of_all}
use Rattle.interpreter.specs.reference_machine.Runs.{IsStateAfter, is_refusal, initial_state, initial_state_at, thread_part}
use Rattle.interpreter.specs.reference_machine.States.{State}
use Rattle.interpreter.specs.reference_machine.Steps.{Answers, step}
use Rattle.interpreter.proofs.reference_machine.Runs.InstructionEffects.{same_after}
use Rattle.interpreter.proofs.cil_model.Lists.{none_is_some, set_or_was}
use Rattle.interpreter.specs.object_memory.Spaces.{room_for}
use Rattle.collector.specs.phase_handshake.Handshakes.{Handshakes, first_handshakes, first_seat, join_thread, own_phase, seat_of}
use Rattle.collector.specs.phase_handshake.declared.posts.Seat.{Seat}
use Rattle.interpreter.specs.Instructions.{Answer}
use Rattle.simulation.specs.MachineStates.{MachineState}
use Rattle.simulation.specs.Rooms.{HasNoRoom, spaces_of}
use Rattle.simulation.specs.Runs.{AreSteps, IsRunOf, RefusesBeyondRoom}
use Rattle.simulation.specs.Refines.{Represents}
use Rattle.simulation.specs.Transitions.{IsTransition, left_by, initial_machine_state, seats_after}
use Rattle.simulation.proofs.Instructions.Correspondence.{InstructionsAreAlike}
use Rattle.simulation.proofs.CollectedHeap.MemoryWithRoom.{room_seen}
use Rattle.simulation.proofs.Threads.StepEffects.{HasBegun, IsFinished, finished_by, same_program, step_by}
use Rattle.simulation.proofs.Representation.InitialContents.{initially, opened_represents}
use Rattle.simulation.proofs.Threads.Steps.{step_follows}

-- ---- seats

-- each live thread is between cycles
abbrev pub AreBetween : Handshakes → Type 0
AreBetween h = (t : ℕ) (s : Seat) → seat_of h t ≡ Some s → s.phase ≡ Idle

-- they stay so where a seat is one that is between, or none
between_set : (h : Handshakes) (n : ℕ) (o : Option Seat) → ((s : Seat) → o ≡ Some s → s.phase ≡ Idle) → AreBetween h → AreBetween (record h { seats = slice_set h.seats n o })
between_set h n o new are t s is = by_index (set_or_was h.seats n t o (Some s) (there (slice_get (slice_set h.seats n o) t) is))
  where
    there : (p : Option (Option Seat)) → option_and_then (λ (x : Option Seat). x) p ≡ Some s → p ≡ Some (Some s)
    there None e = none_is_some s e
    there (Some x) e = ap Some e

    by_index : (Some s ≡ o) ⊎ (slice_get h.seats t ≡ Some (Some s)) → s.phase ≡ Idle
    by_index (inl same) = new s (sym same)
    by_index (inr was) = are t s (ap (option_and_then (λ (x : Option Seat). x)) was)

-- a thread that ends leaves, and with any other report the seats stay
between_after : (h : Handshakes) (t : ℕ) (r : Report) → AreBetween h → AreBetween (seats_after h t r)
between_after h t (HasEnded e) are = between_set h t None (λ s is. none_is_some s is) are
between_after h t _ are = are

-- so does each step leave them
between_stepped : (c : MachineState) (t : ℕ) (after : MachineState × Report) → IsTransition c (Step t) after → AreBetween c.posts → AreBetween after.0.posts
between_stepped c t after transition are = step_by c after (λ (x : MachineState × Report). AreBetween x.0.posts) (λ r. are) (λ t left m a there done is. by_way t left a (finished_by c t left a after a.outcome is)) t transition
  where
    by_way : (t left : ℕ) (a : Answer) → IsFinished c t left a a.outcome after → AreBetween after.0.posts
    by_way t left a way = subst (λ (x : MachineState × Report). AreBetween x.0.posts) way.is (between_after way.posts t _ (by_begun way.are))
      where
        by_begun : ((way.threads ≡ (left_by c t left a).threads) × (way.posts ≡ c.posts)) ⊎ (HasBegun c.limits.budget (left_by c t left a).threads way.threads × (way.posts ≡ join_thread c.posts (length (left_by c t left a).threads) t)) → AreBetween way.posts
        by_begun (inl (same, posts)) = subst AreBetween (sym posts) are
        by_begun (inr (more, posts)) = subst AreBetween (sym posts) (between_set c.posts (length (left_by c t left a).threads) (seat_of c.posts t) (λ s is. are t s is) are)

-- a thread that has no seat counts as between cycles
own_between : (h : Handshakes) → AreBetween h → (t : ℕ) → own_phase h t ≡ Idle
own_between h are t = by_seat (seat_of h t) refl
  where
    by_seat : (o : Option Seat) → seat_of h t ≡ o → option_map_or (λ (s : Seat). s.phase) o Idle ≡ Idle
    by_seat None is = refl
    by_seat (Some s) is = are t s is

-- ---- rooms

all_free : (words : ℕ) → words - 0 ≡ words
all_free words = omega arith

what_is_left : (left all words : ℕ) → left + all ≡ words → words - all ≡ left
what_is_left left all words e = omega (arith, e)

module _ (each : InstructionsAreAlike) where
  -- a run from here on may have all words that the objects of the state have not
  pub record HasWhole (c : MachineState) (s : State) : Type 0 where
    pub represents : Represents c s
    pub between : AreBetween c.posts
    pub whole : room_for Idle c.objects.spaces + words_of_all c.tree s.objects ≡ c.limits.words

  module _ (c : MachineState) (s : State) (h : HasWhole c s) (t : ℕ) where
    -- the room of the machine is that of one space
    same_room : room (spaces_of c.objects) (own_phase c.posts t) ≡ room (spaces c.tree c.limits s) Idle
    same_room =
        room_seen c h.represents.sound t ∙ ap (λ (p : Phase). room_for p c.objects.spaces) (own_between c.posts h.between t)
        ∙ sym (what_is_left (room_for Idle c.objects.spaces) (words_of_all c.tree s.objects) c.limits.words h.whole)

    beyond_one : HasNoRoom c s t → ExceedsRoom c.tree c.limits s t
    beyond_one x = record {
      report = x.report;
      after = x.after;
      object = x.object;
      without_refusal = x.without_refusal;
      is_born = x.is_born;
      exceeds = subst (λ n. IsTrue (if nat_le (cell_words c.tree x.object.contents) n then false else true)) same_room x.exceeds;
    }

    pub beyond_own : ExceedsRoom c.tree c.limits s t → HasNoRoom c s t
    beyond_own x = record {
      report = x.report;
      after = x.after;
      object = x.object;
      without_refusal = x.without_refusal;
      is_born = x.is_born;
      exceeds = subst (λ n. IsTrue (if nat_le (cell_words c.tree x.object.contents) n then false else true)) (sym same_room) x.exceeds;
    }

    -- it stays so after a step
    pub whole_stepped : (after : MachineState × Report) → IsTransition c (Step t) after → (s' : State) × (step c.tree c.limits s t (is_refusal after.1) ≡ Answers after.1 s') × HasWhole after.0 s'
    whole_stepped after transition =
        let follows = step_follows each c s h.represents t after transition in
        let same = same_program c after (Step t) transition in
        let together : room_for Idle after.0.objects.spaces + words_of_all c.tree follows.0.objects ≡ room_for Idle c.objects.spaces + words_of_all c.tree s.objects =
        subst (λ (p : Phase). room_for p after.0.objects.spaces + words_of_all c.tree follows.0.objects ≡ room_for p c.objects.spaces + words_of_all c.tree s.objects) (own_between c.posts h.between t) follows.3.together in (
          follows.0,
          follows.1,
          record {
            represents = follows.2;
            between = between_stepped c t after transition h.between;
            whole = ap (λ (tree : Tree). room_for Idle after.0.objects.spaces + words_of_all tree follows.0.objects) same.0 ∙ together ∙ h.whole ∙ ap (λ (l : Limits). l.words) (sym same.1);
          },
        )

  -- ---- runs

  one_space : (events : List Event) (reports : List Report) → AreSteps events → (c : MachineState) (s : State) (last : MachineState) → HasWhole c s → RefusesBeyondRoom c s (zip events reports) last → RefusesBeyondOneSpace c.tree c.limits s (thread_part (zip events reports))
  one_space (Ack t ∷ es) reports steps c s last h run = absurd steps
  one_space (Gc ∷ es) reports steps c s last h run = absurd steps
  one_space (Step t ∷ es) (r ∷ rs) steps c s last h (next, transition, refused, later) =
      let after = whole_stepped c s h t (next, r) transition in
      let same = same_program c (next, r) (Step t) transition in (
        (λ x. beyond_one c s h t (refused.0 x), λ x. refused.1 (beyond_own c s h t x)),
        λ report state is.
            let one : after.0 ≡ state = same_after r report after.0 state (sym after.1 ∙ is) in
            let rest : RefusesBeyondOneSpace next.tree next.limits after.0 (thread_part (zip es rs)) = one_space es rs steps next after.0 last after.2 (later after.0 after.1) in
            subst (λ (u : State). RefusesBeyondOneSpace c.tree c.limits u (thread_part (zip es rs))) one
            (subst (λ (l : Limits). RefusesBeyondOneSpace c.tree l after.0 (thread_part (zip es rs))) same.1 (subst (λ (u : Tree). RefusesBeyondOneSpace u next.limits after.0 (thread_part (zip es rs))) same.0 rest)),
      )
  one_space _ _ steps c s last h run = tt

-- ---- the initial state

module _ (tree : Tree) (limits : Limits) where
  -- nothing was born, and thread 0 alone has a seat
  record IsFirst (c : MachineState) : Type 0 where
    tree_is : c.tree ≡ tree
    limits_are : c.limits ≡ limits
    between : AreBetween c.posts
    room : room_for Idle c.objects.spaces ≡ limits.words

  first_between : AreBetween first_handshakes
  first_between t s is = by_seat t is
    where
      none_after : (n k : ℕ) → option_and_then (λ (x : Option Seat). x) (slice_get (replicate n None) k) ≡ Some s → s.phase ≡ Idle
      none_after (suc n) (suc k) e = none_after n k e
      none_after _ _ e = none_is_some s e

      by_seat : (k : ℕ) → seat_of first_handshakes k ≡ Some s → s.phase ≡ Idle
      by_seat zero e = sym (ap (λ (x : Seat). x.phase) (same_Some first_seat s e))
      by_seat (suc k) e = none_after (MOST_THREADS - 1) k e

  opened_first : (c : MachineState) → initial_machine_state tree limits ≡ Some c → IsFirst c
  opened_first = initially tree limits IsFirst (λ entry n. record { tree_is = refl; limits_are = refl; between = first_between; room = all_free limits.words })

  opens_empty : (s : State) → initial_state tree limits ≡ Some s → s.objects ≡ []
  opens_empty s e = by_entry (slice_get (entry_points tree) 0) e
    where
      by_code : (entry : ClassName × Method) (code : Option Code) → option_map (initial_state_at tree limits entry) code ≡ Some s → s.objects ≡ []
      by_code entry None h = none_is_some s h
      by_code entry (Some code) h = sym (ap (λ (x : State). x.objects) (same_Some (initial_state_at tree limits entry code) s h))

      by_entry : (entry : Option (ClassName × Method)) → option_and_then (λ (x : ClassName × Method). option_map (initial_state_at tree limits x) (code_of x.1.kind)) entry ≡ Some s → s.objects ≡ []
      by_entry None h = none_is_some s h
      by_entry (Some entry) h = by_code entry (code_of entry.1.kind) h

  module _ (each : InstructionsAreAlike) (accepted : IsAccepted tree) (in_range : IsTrue (are_in_range limits)) where
    -- before its first event a machine has all words of its limits
    pub opened_whole : (machine : MachineState) → initial_machine_state tree limits ≡ Some machine → (first : State) → initial_state tree limits ≡ Some first → HasWhole each machine first
    opened_whole machine opens first begins =
        let is_first = opened_first machine opens in
        let none : words_of_all machine.tree first.objects ≡ 0 = ap (words_of_all machine.tree) (opens_empty first begins) in
        record {
          represents = opened_represents tree limits accepted in_range machine opens first begins;
          between = is_first.between;
          whole = all_left is_first.room none (ap (λ (l : Limits). l.words) is_first.limits_are);
        }
      where
        all_left : {left words all own : ℕ} → left ≡ words → all ≡ 0 → own ≡ words → left + all ≡ own
        all_left e f g = omega (arith, e, f, g)

    -- a run of steps is one of a machine that has one space and collects nothing
    pub steps_refuse : (events : List Event) (reports : List Report) (s : State) → AreSteps events → IsRunOf tree limits events reports s → IsStateAfter tree limits (zip events reports) s
    steps_refuse events reports s steps h =
        let first = opened_first h.machine h.opened in
        let whole : HasWhole each h.machine h.first = opened_whole h.machine h.opened h.first h.begins in
        let refuses = one_space each events reports steps h.machine h.first h.last whole h.refuses in
        record {
          first = h.first;
          begins = h.begins;
          gives = h.gives;
          refuses = subst (λ (l : Limits). RefusesBeyondOneSpace tree l h.first (thread_part (zip events reports))) first.limits_are (subst (λ (u : Tree). RefusesBeyondOneSpace u h.machine.limits h.first (thread_part (zip events reports))) first.tree_is refuses);
        }

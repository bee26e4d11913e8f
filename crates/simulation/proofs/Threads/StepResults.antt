-- A machine is sound after the step of a thread if its posts are the same, the thread holds what it may, and each other thread what it might hold before.
-- The step of a thread has the same result on both machines, for each effect of its instruction.
use Rattle.std.proofs.Common.{◌≡◌, ◌<◌, ℕ, true, false, List, [], ◌∷◌, ◌++◌, length, Option, Some, None, slice_get, slice_set, refl, inl, inr, sym, ap, ◌∙◌, subst, arith, ◌-◌, ◌==◌, if◌then◌else◌, is_none, zero, suc, Bool}
use Rattle.std.specs.Prelude.{is_some}
use Rattle.std.specs.Option.{option_map_or}
use Rattle.std.proofs.lemmas.Option.{same_Some, slice_get_within, slice_get_past}
use Rattle.interpreter.specs.cil_model.declared.reports.Report.{Report}
use Rattle.interpreter.specs.reference_machine.States.{State, Frame as StateFrame, Thread as StateThread}
use Rattle.interpreter.specs.object_memory.declared.addresses.Addr.{Addr}
use Rattle.interpreter.specs.object_memory.declared.values.Value.{Value}
use Rattle.interpreter.specs.object_memory.Objects.{Objects}
use Rattle.collector.specs.phase_handshake.Handshakes.{Handshakes, join_thread, seat_of}
use Rattle.collector.specs.phase_handshake.declared.posts.Seat.{Seat}
use Rattle.collector.specs.Holds.{may_hold}
use Rattle.collector.specs.Soundness.{IsListed}
use Rattle.interpreter.specs.threads_monitors.Frames.{Frames}
use Rattle.interpreter.specs.threads_monitors.Roots.{roots}
use Rattle.interpreter.specs.threads_monitors.Threads.{is_live, charge, end_after, report_of, status_after}
use Rattle.interpreter.specs.threads_monitors.declared.effects.Effect.{Effect}
use Rattle.interpreter.specs.threads_monitors.declared.threads.ThreadStatus.{ThreadStatus}
use Rattle.interpreter.specs.threads_monitors.declared.threads.ThreadStatus.TheVariants.{Live, Ended}
use Rattle.interpreter.specs.threads_monitors.declared.threads.Thread.{Thread}
use Rattle.simulation.specs.MachineStates.{MachineState, mutator_of}
use Rattle.simulation.specs.Sound.{AreSeated, IsSound}
use Rattle.simulation.specs.Refines.{Names, Represents, AreFrames, IsThread, RefinesUnder}
use Rattle.simulation.specs.Transitions.{live_thread, seats_after, count_step}
use Rattle.interpreter.proofs.cil_model.Lists.{last_is_there}
use Rattle.interpreter.proofs.cil_model.SameLaws.{never}
use Rattle.collector.proofs.PhaseChanges.StaticFlips.{set_here_or_there}
use Rattle.simulation.proofs.CollectedHeap.CollectedMemory.{others_may_hold, own_may_hold, frames_are_held}
use Rattle.simulation.proofs.Threads.Seats.{append_other, counted_posts, counted_seat, set_seat, other_seat}
use Rattle.simulation.proofs.Threads.LiveThreads.{FitsOwn, normally, own_passes, seat, seat_there, KeepsOwnNames, fits_of, names_of, own_memory, own_model, own_names, room_of}
use Rattle.std.proofs.lemmas.Bool.Decides.{nat_tests}
use Rattle.interpreter.specs.cil_model.declared.reports.End.{End}
use Rattle.interpreter.specs.cil_model.declared.reports.End.TheVariants.{Done, Budget, Fault as ByFault}
use Rattle.interpreter.specs.cil_model.declared.reports.Fault.{Fault}
use Rattle.interpreter.specs.cil_model.declared.reports.Fault.TheVariants as Faults
use Rattle.interpreter.specs.cil_model.declared.reports.Report.TheVariants.{Blocked, Ended as HasEnded, Absent}
use Rattle.interpreter.specs.reference_machine.Effects.{Effect as StateEffect, Goes, Blocks as StateBlocks, Raises as StateRaises, when_some}
use Rattle.interpreter.specs.reference_machine.Steps.{StepOutcome, Answers, execute, effect_of, with_thread_at, ended_as, continues, charge as state_step_charged, step_of, step}
use Rattle.interpreter.specs.reference_machine.Runs.{is_refusal}
use Rattle.interpreter.specs.reference_machine.TypedStates.{IsTyped}
use Rattle.interpreter.proofs.reference_machine.TypedSteps.StepsAndRuns.{step_typed}
use Rattle.interpreter.proofs.reference_machine.TypedSteps.AllInstructions.{instruction_typed}
use Rattle.simulation.proofs.MonitorCounts.Steps.{step_counted}
use Rattle.interpreter.specs.threads_monitors.declared.effects.Effect.TheVariants.{Continues, Returns, Blocks, Raises}
use Rattle.simulation.specs.Agreement.{Agree}
use Rattle.simulation.proofs.ListLaws.AgreeingLists.{agree_set, agree_weaken}
use Rattle.simulation.proofs.Representation.MoreNames.{frames_extend, thread_extends}
use Rattle.simulation.proofs.Memory.NamedAddresses.{memory_beside}
use Rattle.interpreter.specs.declared.outcomes.InstructionOutcome.TheVariants.{OwnEffect}
use Rattle.simulation.proofs.Instructions.Correspondence.{LeavesMemory, EffectsAlike, is_refused_fault, is_refused_effect}
use Rattle.simulation.proofs.ProgramSizes.LimitRanges.{budget_is_some}
use Rattle.simulation.proofs.Threads.NextInstruction.{setting_of, is_alive, is_running}
use Rattle.simulation.proofs.CollectedHeap.VisibleNames.{own_extends}
use Rattle.simulation.proofs.Memory.MemoryModels.{IsModelled}
use Rattle.simulation.proofs.CollectedHeap.MemoryWithRoom.{KeepsRoom}
use Rattle.interpreter.specs.Instructions.{Answer}
use Rattle.std.proofs.lemmas.Bool.{cases_eq}

-- the references of a thread's frames pass, as long as it is live
abbrev pub FramesPass : (Addr → Type 0) → ThreadStatus → Type 0
FramesPass P thread_status = (fs : Frames) → thread_status ≡ Live fs → (a : Addr) → IsListed (roots fs) a → P a

module _ (c : MachineState) (s : State) (r : Represents c s) (t left : ℕ) (m : Frames) (there : slice_get c.threads t ≡ Some (record { thread_status = Live m; steps_left = left })) where
  -- posts are the same, and each seat was there before; the other threads hold what they may in the objects that the step left
  pub record AreBeside (base : List Thread) (h : Handshakes) (o : Objects) : Type 0 where
    pub posts : h ≡ record c.posts { seats = h.seats }
    pub own : seat_of h t ≡ Some (seat c s r t left m there)
    pub were : (n : ℕ) (x : Seat) → seat_of h n ≡ Some x → (k : ℕ) × (seat_of c.posts k ≡ Some x)
    pub others : (n left' : ℕ) (fs : Frames) (x : Seat) → (n ≡ t → ⊥) → slice_get base n ≡ Some (record { thread_status = Live fs; steps_left = left' }) → seat_of h n ≡ Some x → (a : Addr) → IsListed (roots fs) a → may_hold c.posts o.spaces x a ≡ true

  module _ (names : Names) (o : Objects) (ss : List Value) (s' : State) (fits : FitsOwn c s r t left m there names o ss s') where
    -- what a thread holds that was there before
    held_still : (n left' : ℕ) (fs : Frames) (x : Seat) → slice_get c.threads n ≡ Some (record { thread_status = Live fs; steps_left = left' }) → seat_of c.posts n ≡ Some x → (a : Addr) → IsListed (roots fs) a → may_hold c.posts o.spaces x a ≡ true
    held_still n left' fs x at is a listed =
        others_may_hold c.tree c.limits.max_words c.posts c.progress (seat c s r t left m there) c.objects (normally c s r).name names o ss s' fits a x (r.sound.threads n left' fs x at is a listed)

    -- beside the threads that were there
    pub beside_same : AreBeside c.threads c.posts o
    beside_same = record { posts = refl; own = (seat_there c s r t left m there).1; were = λ n x is. (n, is); others = λ n left' fs x apart at is a listed. held_still n left' fs x at is a listed }

    -- and one more, which begins with the seat of its starter
    module _ (new : Thread) (new_passes : FramesPass (own_passes c s r t left m there o) new.thread_status) where
      abbrev h : Handshakes
      h = join_thread c.posts (length c.threads) t

      earlier : t ≡ length c.threads → ⊥
      earlier same = let within : t < length c.threads = slice_get_within c.threads t (record { thread_status = Live m; steps_left = left }) there in omega (arith, within, same)

      -- no thread had the seat
      free : (x : Seat) → seat_of c.posts (length c.threads) ≡ Some x → ⊥
      free x is = absurd (never (sym (ap (λ o. option_map_or is_live o false) (slice_get_past c.threads (length c.threads) (omega arith))) ∙ r.sound.seated.live (length c.threads) ∙ ap is_some is))

      pub beside_more : AreBeside (c.threads ++ new ∷ []) (join_thread c.posts (length c.threads) t) o
      beside_more = record {
        posts = refl;
        own = other_seat c.posts (length c.threads) t (seat_of c.posts t) earlier ∙ (seat_there c s r t left m there).1;
        were = λ n x is. elim (set_seat c.posts (length c.threads) n (seat_of c.posts t) x is) [ inl new' ↦ (t, new') | inr was ↦ (n, was) ];
        others = λ n left' fs x apart at is a listed. elim (cases_eq n (length c.threads)) [
          | inl same ↦ of_new n left' fs x same at is a listed
          | inr other ↦ held_still n left' fs x (sym (append_other c.threads n new other) ∙ at) (sym (other_seat c.posts (length c.threads) n (seat_of c.posts t) other) ∙ is) a listed
        ];
      }
        where
          of_new : (n left' : ℕ) (fs : Frames) (x : Seat) → n ≡ length c.threads → slice_get (c.threads ++ new ∷ []) n ≡ Some (record { thread_status = Live fs; steps_left = left' }) → seat_of (join_thread c.posts (length c.threads) t) n ≡ Some x → (a : Addr) → IsListed (roots fs) a →
              may_hold c.posts o.spaces x a ≡ true
          of_new n left' fs x same at is a listed =
              let is_new : new ≡ record { thread_status = Live fs; steps_left = left' } = same_Some new _ (sym (last_is_there c.threads new) ∙ ap (slice_get (c.threads ++ new ∷ [])) (sym same) ∙ at) in
              let own : seat c s r t left m there ≡ x = elim (set_seat c.posts (length c.threads) n (seat_of c.posts t) x is) [
                | inl begun ↦ same_Some (seat c s r t left m there) x (sym (seat_there c s r t left m there).1 ∙ begun)
                | inr was ↦ absurd (free x (ap (seat_of c.posts) (sym same) ∙ was))
              ]
              in
              subst (λ (y : Seat). may_hold c.posts o.spaces y a ≡ true) own
              (own_may_hold c.tree c.limits.max_words c.posts c.progress (seat c s r t left m there) c.objects (normally c s r).name names o ss s' fits a (new_passes fs (ap (λ (y : Thread). y.thread_status) is_new) a listed))

    -- ---- the whole

    module _ (printed : List ℕ) (base : List Thread) (h : Handshakes) (with_objects : AreBeside base h o) where
      module _ (threads : List Thread) (seats : List (Option Seat)) (were : (n : ℕ) (x : Seat) → seat_of (record c.posts { seats = seats }) n ≡ Some x → (k : ℕ) × (seat_of c.posts k ≡ Some x))
          (hold : (n left' : ℕ) (fs : Frames) (x : Seat) → slice_get threads n ≡ Some (record { thread_status = Live fs; steps_left = left' }) → seat_of (record c.posts { seats = seats }) n ≡ Some x → (a : Addr) → IsListed (roots fs) a → may_hold c.posts o.spaces x a ≡ true) where
        sound_with : AreSeated (record c.posts { seats = seats }) threads → IsSound (record c { threads = threads; posts = record c.posts { seats = seats }; objects = o; statics = ss; printed = printed })
        sound_with fit = record {
          seated = fit;
          heap = fits.sound;
          rounds = r.sound.rounds;
          on_time = λ n x is. let was = were n x is in fits.on_time x.phase (r.sound.on_time was.0 x was.1);
          threads = hold;
          statics = fits.static_holds;
        }

      module _ (effect : Effect) (m' : Frames) (pass : FramesPass (own_passes c s r t left m there o) (charge effect (live_thread left m')).0.thread_status) where
        abbrev x : Thread × Report
        x = charge effect (live_thread left m')

        abbrev after : Handshakes
        after = seats_after h t x.1

        after_is : after ≡ record c.posts { seats = after.seats }
        after_is = counted_posts h t x.1 ∙ ap (λ (y : Handshakes). record y { seats = after.seats }) with_objects.posts

        -- the machine is sound once the step is counted
        pub after_sound : AreSeated (seats_after h t (charge effect (live_thread left m')).1) (slice_set base t (charge effect (live_thread left m')).0) →
            IsSound (record c { threads = slice_set base t (charge effect (live_thread left m')).0; posts = seats_after h t (charge effect (live_thread left m')).1; objects = o; statics = ss; printed = printed })
        after_sound fit =
            subst (λ (y : Handshakes). IsSound (record c { threads = slice_set base t x.0; posts = y; objects = o; statics = ss; printed = printed })) (sym after_is)
            (sound_with (slice_set base t x.0) after.seats (λ n y is. with_objects.were n y (counted_seat h t x.1 n y is)) hold (subst (λ (y : Handshakes). AreSeated y (slice_set base t x.0)) after_is fit))
          where
            hold : (n left' : ℕ) (fs : Frames) (y : Seat) → slice_get (slice_set base t x.0) n ≡ Some (record { thread_status = Live fs; steps_left = left' }) → seat_of after n ≡ Some y → (a : Addr) → IsListed (roots fs) a → may_hold c.posts o.spaces y a ≡ true
            hold n left' fs y at is a listed = elim (set_here_or_there base t n x.0 _ at) [
              | inl here ↦
                  (let own : seat c s r t left m there ≡ y = same_Some (seat c s r t left m there) y (sym with_objects.own ∙ ap (seat_of h) (sym here.0) ∙ counted_seat h t x.1 n y is) in
                  subst (λ (z : Seat). may_hold c.posts o.spaces z a ≡ true) own
                  (own_may_hold c.tree c.limits.max_words c.posts c.progress (seat c s r t left m there) c.objects (normally c s r).name names o ss s' fits a (pass fs (ap (λ (z : Thread). z.thread_status) (sym here.1)) a listed)))
              | inr other ↦ with_objects.others n left' fs y other.0 other.1 (counted_seat h t x.1 n y is) a listed
            ]

-- ---- The step of a thread has the same result on both machines, for each effect of its instruction.

-- a thread with a step left isn't spent
some_left : (n : ℕ) → (suc n == 0) ≡ false
some_left n = grind (arith, nat_tests)

-- ---- the thread after its step

module _ (names : Names) (c : MachineState) (s : State) (by : RefinesUnder names c s) (t : ℕ) where
  -- a thread in place of another
  thread_refines : (x : Thread) (u : StateThread) → IsThread c.tree c.limits names x u → RefinesUnder names (record c { threads = slice_set c.threads t x }) (with_thread_at s t u)
  thread_refines x u h = record {
    memory = memory_beside c.tree names c.objects s (with_thread_at s t u) refl refl refl refl c.statics c.printed by.memory;
    threads = agree_set (IsThread c.tree c.limits names) c.threads s.threads by.threads t x u h;
  }

  -- both return the same report, and what is held then represents the state, of the same objects
  abbrev ChargesStep : StepOutcome → Thread × Report → Type 0
  ChargesStep outcome x = (s' : State) × (outcome ≡ Answers x.1 s') × RefinesUnder names (record c { threads = slice_set c.threads t x.0 }) s' × (s'.objects ≡ s.objects)

  ends : (left : ℕ) (e : End) → ChargesStep (ended_as s t left e) (record { thread_status = Ended e; steps_left = left }, HasEnded e)
  ends left e = (_, refl, thread_refines (record { thread_status = Ended e; steps_left = left }) (record { frames = []; steps_left = left; ended = Some e }) (record { thread_status = refl; steps_left = refl }), refl)

  goes : (m : Frames) (fs : List StateFrame) → AreFrames c.tree c.limits names m fs → (effect : Effect) (left : ℕ) → ChargesStep (continues (report_of effect) s t left fs) (status_after (if left == 0 then Some Budget else None) m left effect)
  goes m fs h effect zero = ends 0 Budget
  goes m fs h effect (suc left) =
      subst (λ b. ChargesStep (continues (report_of effect) s t (suc left) fs) (status_after (if b then Some Budget else None) m (suc left) effect)) (sym (some_left left))
      (_, refl, thread_refines (record { thread_status = Live m; steps_left = suc left }) (record { frames = fs; steps_left = suc left; ended = None }) (record { thread_status = h; steps_left = refl }), refl)

  -- an effect that comes from the state before, where the thread had these frames, and the same of the reference machine
  abbrev pub IsEffect : State → List StateFrame → Effect → Frames → StateEffect → Type 0
  IsEffect before fs Continues m e = (g : StateFrame) × (gs : List StateFrame) × (e ≡ Goes (g ∷ gs) s) × AreFrames c.tree c.limits names m (g ∷ gs)
  IsEffect before fs Returns m e = e ≡ Goes [] s
  IsEffect before fs Blocks m e = (e ≡ StateBlocks) × (s ≡ before) × AreFrames c.tree c.limits names m fs
  IsEffect before fs (Raises x) m e = (e ≡ StateRaises x) × (s ≡ before)

  charges_step : (before : State) (fs : List StateFrame) (effect : Effect) (m : Frames) (e : StateEffect) → IsEffect before fs effect m e → (left : ℕ) → ChargesStep (state_step_charged before t left fs e) (status_after (end_after effect left) m left effect)
  charges_step before fs Continues m e (g, gs, is, h) left = subst (λ x. ChargesStep (state_step_charged before t left fs x) (status_after (end_after Continues left) m left Continues)) (sym is) (goes m (g ∷ gs) h Continues left)
  charges_step before fs Returns m e is left = subst (λ x. ChargesStep (state_step_charged before t left fs x) (status_after (end_after Returns left) m left Returns)) (sym is) (ends left Done)
  charges_step before fs Blocks m e (is, same, h) left =
      subst (λ x. ChargesStep (state_step_charged before t left fs x) (status_after (end_after Blocks left) m left Blocks)) (sym is)
      (subst (λ x. ChargesStep (continues Blocked x t left fs) (status_after (end_after Blocks left) m left Blocks)) same (goes m fs h Blocks left))
  charges_step before fs (Raises x) m e (is, same) left =
      subst (λ y. ChargesStep (state_step_charged before t left fs y) (status_after (end_after (Raises x) left) m left (Raises x))) (sym is)
      (subst (λ y. ChargesStep (ended_as y t left (ByFault x)) (status_after (end_after (Raises x) left) m left (Raises x))) same (ends left (ByFault x)))

-- ---- whether memory was refused

refusal_of_fault : (x : Fault) → is_refusal (HasEnded (ByFault x)) ≡ is_refused_fault x
refusal_of_fault Faults.NullReference = refl
refusal_of_fault _ = refl

pub refusal_of : (effect : Effect) (m : Frames) (left : ℕ) → is_refusal (status_after (end_after effect left) m left effect).1 ≡ is_refused_effect effect
refusal_of Continues m (suc left) = ap (λ b. is_refusal (status_after (if b then Some Budget else None) m (suc left) Continues).1) (some_left left)
refusal_of Blocks m (suc left) = ap (λ b. is_refusal (status_after (if b then Some Budget else None) m (suc left) Blocks).1) (some_left left)
refusal_of (Raises x) m left = refusal_of_fault x
refusal_of _ m _ = refl

-- ---- a live thread's step

same_state : (o : StepOutcome) (x y : Report) (s s' : State) → o ≡ Answers x s → o ≡ Answers y s' → s ≡ s'
same_state o x y s s' h k = cc

-- the room for births of a thread and the words of all objects are together the same number as before its step
abbrev pub KeepsOwnRoom : MachineState → State → ℕ → Objects → State → Type 0
KeepsOwnRoom c s t o s' = KeepsRoom c.tree (mutator_of c t).phase c.objects o s.objects s'.objects

-- the outcome of the step of a thread on both machines, where posts and seats fit the threads after it
abbrev pub Follows : (c : MachineState) (s : State) → Represents c s → ℕ → MachineState × Report → Type 0
Follows c s r t after = AreSeated after.0.posts after.0.threads →
    (s' : State) × (step c.tree c.limits s t (is_refusal after.1) ≡ Answers after.1 s') × (r' : Represents after.0 s') × KeepsOwnRoom c s t after.0.objects s' × KeepsOwnNames c s r after.0.objects r'.refines.name

-- a machine state that represents the state after a step
pub followed : (c : MachineState) (s : State) (r : Represents c s) (t : ℕ) (threads : List Thread) (h : Handshakes) (o : Objects) (statics : List Value) (printed : List ℕ) (report : Report) (s' : State) →
    step c.tree c.limits s t (is_refusal report) ≡ Answers report s' → (name : Names) → RefinesUnder name (record c { threads = threads; objects = o; statics = statics; printed = printed }) s' →
    (AreSeated h threads → IsSound (record c { threads = threads; posts = h; objects = o; statics = statics; printed = printed })) → KeepsOwnRoom c s t o s' → KeepsOwnNames c s r o name →
    Follows c s r t (record c { threads = threads; posts = h; objects = o; statics = statics; printed = printed }, report)
followed c s r t threads h o statics printed report s' is name refines sound room names =
    λ fit. let typed = step_typed instruction_typed c.tree c.limits r.accepted t (is_refusal report) s r.typed in (
      s',
      is,
      record {
        accepted = r.accepted;
        limits = r.limits;
        typed = subst (IsTyped c.tree) (same_state (step c.tree c.limits s t (is_refusal report)) typed.0 report typed.1 s' typed.2 is) typed.3;
        counted = step_counted c.tree c.limits (budget_is_some c.limits r.limits) t (is_refusal report) s r.counted report s' is;
        sound = sound fit;
        refines = record { name = name; by = record { memory = refines.memory; threads = refines.threads } };
      },
      room,
      names,
    )

-- ---- frames of a thread that is live after its step

-- they are those that its instruction left,
still_live : (o : Option End) (m fs : Frames) (n : ℕ) (effect : Effect) → (status_after o m n effect).0.thread_status ≡ Live fs → m ≡ fs
still_live None m fs n effect e = cc
still_live (Some x) m fs n effect e = absurd cc

-- and one that has ended has none
ended_none : {A : Type 0} (e : End) (fs : Frames) → Ended e ≡ Live fs → A
ended_none e fs h = absurd cc

module _ (c : MachineState) (s : State) (r : Represents c s) (t left : ℕ) (m : Frames) (there : slice_get c.threads t ≡ Some (record { thread_status = Live m; steps_left = left })) where
  -- what the instruction of the thread does on the reference machine
  abbrev pub done : Bool → StateEffect
  done refused = execute (setting_of c t refused) s (is_alive c s r t left m there).running (is_alive c s r t left m there).below (is_running c s r t left m there refused).0

  -- and so its step
  pub step_is : (refused : Bool) → step c.tree c.limits s t refused ≡ state_step_charged s t (left - 1) (is_alive c s r t left m there).thread.frames (done refused)
  step_is refused =
      let u : StateThread = (is_alive c s r t left m there).thread in
      let f : StateFrame = (is_alive c s r t left m there).running in
      let below : List StateFrame = (is_alive c s r t left m there).below in
      let does : effect_of (setting_of c t refused) s u.frames ≡ done refused =
      ap (effect_of (setting_of c t refused) s) (is_alive c s r t left m there).frames_are ∙ ap (λ i. when_some i (execute (setting_of c t refused) s f below)) (is_running c s r t left m there refused).1 in
      ap (λ x. option_map_or (step_of (setting_of c t refused) s) x (Answers Absent s)) (is_alive c s r t left m there).there ∙
      ap (λ e. if is_none e then state_step_charged s t (u.steps_left - 1) u.frames (effect_of (setting_of c t refused) s u.frames) else Answers Absent s) (is_alive c s r t left m there).lives ∙
      ap (λ e. state_step_charged s t (u.steps_left - 1) u.frames e) does ∙
      ap (λ n. state_step_charged s t (n - 1) u.frames (done refused)) (sym (is_alive c s r t left m there).steps)

  -- ---- what an instruction left

  -- what fits represents the state, beside the threads that were there
  pub by_fits : (names : Names) (o : Objects) (statics : List Value) (printed : List ℕ) (s' : State) (fits : FitsOwn c s r t left m there names o statics s') → printed ≡ s'.printed → s'.threads ≡ s.threads →
      RefinesUnder fits.whole (record c { objects = o; statics = statics; printed = printed }) s'
  by_fits names o statics printed s' fits same others = record {
    memory = record { heap = fits.heap; static_values = fits.refines; printed_is = same };
    threads = subst (Agree (IsThread c.tree c.limits fits.whole) c.threads) (sym others)
        (agree_weaken (IsThread c.tree c.limits (normally c s r).name) (IsThread c.tree c.limits fits.whole) (thread_extends (normally c s r).name fits.whole fits.extends c.tree c.limits) c.threads s.threads (normally c s r).by.threads);
  }

  module _ (names : Names) (o : Objects) (statics : List Value) (s' : State) (fits : FitsOwn c s r t left m there names o statics s') (m' : Frames) (gs : List StateFrame) (h : AreFrames c.tree c.limits names m' gs) where
    -- frames of the thread stand beside the others,
    pub frames_whole : AreFrames c.tree c.limits fits.whole m' gs
    frames_whole = frames_extend names fits.whole (own_extends c.tree c.limits.max_words c.posts c.progress (seat c s r t left m there) c.objects (normally c s r).name names o statics s' fits) c.tree c.limits m' gs h

    -- and hold what it may
    pub frames_pass : (a : Addr) → IsListed (roots m') a → own_passes c s r t left m there o a
    frames_pass = frames_are_held c.tree c.limits.max_words c.posts c.progress (seat c s r t left m there) c.objects (normally c s r).name names o statics s' fits c.limits m' gs h

    pub charged_pass : (effect : Effect) → FramesPass (own_passes c s r t left m there o) (charge effect (live_thread left m')).0.thread_status
    charged_pass effect fs e a listed = frames_pass a (subst (λ x. IsListed (roots x) a) (sym (still_live (end_after effect (left - 1)) m' fs (left - 1) effect e)) listed)

  -- a thread whose step is charged as its instruction's effect says
  pub finish : (names : Names) (threads base : List Thread) (h : Handshakes) (o : Objects) (statics : List Value) (printed : List ℕ) (s' : State) → ((x : Thread) → slice_set threads t x ≡ slice_set base t x) →
      (fits : FitsOwn c s r t left m there names o statics s') → KeepsOwnRoom c s t o s' → KeepsOwnNames c s r o fits.whole → (by : RefinesUnder fits.whole (record c { threads = base; objects = o; statics = statics; printed = printed }) s') →
      AreBeside c s r t left m there base h o → (refused : Bool) (effect : Effect) → refused ≡ is_refused_effect effect → (m' : Frames) →
      IsEffect fits.whole (record c { threads = base; objects = o; statics = statics; printed = printed }) s' by t s (is_alive c s r t left m there).thread.frames effect m' (done refused) →
      FramesPass (own_passes c s r t left m there o) (charge effect (live_thread left m')).0.thread_status →
      Follows c s r t (count_step (record c { threads = threads; posts = h; objects = o; statics = statics; printed = printed }) t left effect m')
  finish names threads base h o statics printed s' same fits room kept by with_objects refused effect refuses m' is pass =
      let charge = charges_step fits.whole (record c { threads = base; objects = o; statics = statics; printed = printed }) s' by t s (is_alive c s r t left m there).thread.frames effect m' (done refused) is (left - 1) in
      let x : Thread × Report = status_after (end_after effect (left - 1)) m' (left - 1) effect in
      followed c s r t (slice_set threads t x.0) (seats_after h t x.1) o statics printed x.1 charge.0
      (ap (step c.tree c.limits s t) (refusal_of effect m' (left - 1) ∙ sym refuses) ∙ step_is refused ∙ charge.1)
      fits.whole
      (subst (λ ts. RefinesUnder fits.whole (record c { threads = ts; objects = o; statics = statics; printed = printed }) charge.0) (sym (same x.0)) charge.2)
      (λ fit. subst (λ ts. IsSound (record c { threads = ts; posts = seats_after h t x.1; objects = o; statics = statics; printed = printed })) (sym (same x.0))
      (after_sound c s r t left m there names o statics s' fits printed base h with_objects effect m' pass (subst (AreSeated (seats_after h t x.1)) (same x.0) fit)))
      (subst (KeepsRoom c.tree (mutator_of c t).phase c.objects o s.objects) (sym charge.3) room)
      kept

  module _ (a : Answer) (as_it_was : LeavesMemory (setting_of c t false) (own_model c s r t left m there) (own_names c s r t left m there) m c.objects c.statics c.printed s (is_alive c s r t left m there).running (is_alive c s r t left m there).below a) where
    -- memory that an instruction leaves as it was
    memory_left : IsModelled c.tree (own_model c s r t left m there) (own_names c s r t left m there) a.objects a.statics a.printed s
    memory_left =
        subst (λ o. IsModelled c.tree (own_model c s r t left m there) (own_names c s r t left m there) o a.statics a.printed s) (sym as_it_was.0)
        (subst (λ v. IsModelled c.tree (own_model c s r t left m there) (own_names c s r t left m there) c.objects v a.printed s) (sym as_it_was.1)
        (subst (λ p. IsModelled c.tree (own_model c s r t left m there) (own_names c s r t left m there) c.objects c.statics p s) (sym as_it_was.2) (own_memory c s r t left m there)))

    fits_left : FitsOwn c s r t left m there (own_names c s r t left m there) a.objects a.statics s
    fits_left = fits_of c s r t left m there (own_names c s r t left m there) a.objects a.statics a.printed s memory_left

    names_left : KeepsOwnNames c s r a.objects fits_left.whole
    unfolding fits_left
    names_left = names_of c s r t left m there (own_names c s r t left m there) a.objects a.statics a.printed s memory_left

    -- and a step after that
    left_follows : (threads : List Thread) → ((x : Thread) → slice_set threads t x ≡ slice_set c.threads t x) → (refused : Bool) (effect : Effect) → refused ≡ is_refused_effect effect →
        IsEffect fits_left.whole (record c { objects = a.objects; statics = a.statics; printed = a.printed }) s (by_fits (own_names c s r t left m there) a.objects a.statics a.printed s fits_left memory_left.printed_is refl) t s
        (is_alive c s r t left m there).thread.frames effect a.frames (done refused) →
        FramesPass (own_passes c s r t left m there a.objects) (charge effect (live_thread left a.frames)).0.thread_status → Follows c s r t (count_step (record c { threads = threads; objects = a.objects; statics = a.statics; printed = a.printed }) t left effect a.frames)
    left_follows threads same refused effect refuses is pass =
        finish (own_names c s r t left m there) threads c.threads c.posts a.objects a.statics a.printed s same fits_left
        (room_of c s r t left m there (own_names c s r t left m there) a.objects a.statics a.printed s memory_left)
        names_left
        (by_fits (own_names c s r t left m there) a.objects a.statics a.printed s fits_left memory_left.printed_is refl)
        (beside_same c s r t left m there (own_names c s r t left m there) a.objects a.statics s fits_left) refused effect refuses a.frames is pass

  -- an instruction that asks nothing of other threads
  pub gives : (threads : List Thread) → ((x : Thread) → slice_set threads t x ≡ slice_set c.threads t x) → (refused : Bool) (effect : Effect) → refused ≡ is_refused_effect effect → (a : Answer) →
      EffectsAlike (setting_of c t refused) (own_model c s r t left m there) (own_names c s r t left m there) m c.objects c.statics c.printed s (is_alive c s r t left m there).running (is_alive c s r t left m there).below (OwnEffect effect) a (done refused) →
      Follows c s r t (count_step (record c { threads = threads; objects = a.objects; statics = a.statics; printed = a.printed }) t left effect a.frames)
  gives threads same refused Continues refuses a h =
      let fits = fits_of c s r t left m there h.names a.objects a.statics a.printed h.state h.memory in
      finish h.names threads c.threads c.posts a.objects a.statics a.printed h.state same fits
      (room_of c s r t left m there h.names a.objects a.statics a.printed h.state h.memory)
      (names_of c s r t left m there h.names a.objects a.statics a.printed h.state h.memory)
      (by_fits h.names a.objects a.statics a.printed h.state fits h.memory.printed_is h.others)
      (beside_same c s r t left m there h.names a.objects a.statics h.state fits) refused Continues refuses a.frames
      (h.running, h.waiting, h.is, frames_whole h.names a.objects a.statics h.state fits a.frames (h.running ∷ h.waiting) h.frames)
      (charged_pass h.names a.objects a.statics h.state fits a.frames (h.running ∷ h.waiting) h.frames Continues)
  gives threads same refused Returns refuses a (is, as_it_was) = left_follows a as_it_was threads same refused Returns refuses is (λ fs e. ended_none Done fs e)
  gives threads same refused Blocks refuses a (is, frames, as_it_was) =
      let fits = fits_left a as_it_was in
      let refine : AreFrames c.tree c.limits (own_names c s r t left m there) a.frames (is_alive c s r t left m there).thread.frames =
      subst (λ x. AreFrames c.tree c.limits (own_names c s r t left m there) x (is_alive c s r t left m there).thread.frames) (sym frames)
      (subst (AreFrames c.tree c.limits (own_names c s r t left m there) m) (sym (is_alive c s r t left m there).frames_are) (is_alive c s r t left m there).frames) in
      left_follows a as_it_was threads same refused Blocks refuses
      (is, refl, frames_whole (own_names c s r t left m there) a.objects a.statics s fits a.frames (is_alive c s r t left m there).thread.frames refine)
      (charged_pass (own_names c s r t left m there) a.objects a.statics s fits a.frames (is_alive c s r t left m there).thread.frames refine Blocks)
  gives threads same refused (Raises x) refuses a (is, as_it_was) = left_follows a as_it_was threads same refused (Raises x) refuses (is, refl) (λ fs e. ended_none (ByFault x) fs e)

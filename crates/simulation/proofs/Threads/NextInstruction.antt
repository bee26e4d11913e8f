-- A live thread is at an instruction of the reference machine, in a setting in which both machines do the same.
use Rattle.std.proofs.Common.{◌≡◌, ℕ, Bool, false, List, [], ◌∷◌, Option, Some, None, option_map, option_and_then, slice_get, refl, sym, ap, ◌∙◌, subst}
use Rattle.std.specs.Prelude.{IsSome}
use Rattle.std.proofs.lemmas.Option.{same_Some}
use Rattle.interpreter.specs.cil_model.declared.instructions.Instruction.{Instruction}
use Rattle.interpreter.specs.cil_model.declared.reports.End.{End}
use Rattle.interpreter.specs.cil_model.declared.trees.Line.{Line}
use Rattle.interpreter.specs.cil_model.declared.trees.Method.{Method}
use Rattle.interpreter.specs.cil_model.declared.types.ClassName.{ClassName}
use Rattle.interpreter.specs.cil_model.Bodies.{lines_of}
use Rattle.interpreter.specs.reference_machine.States.{Frame as StateFrame, Thread as StateThread, State}
use Rattle.interpreter.specs.reference_machine.Effects.{StepContext}
use Rattle.interpreter.specs.reference_machine.Steps.{instruction_at, execute}
use Rattle.interpreter.proofs.reference_machine.TypedStates.RunningFrames.{IsRunning, runs_at}
use Rattle.interpreter.specs.reference_machine.TypedStates.{AreTypedFrames}
use Rattle.interpreter.specs.resolved_code.ResolvedPrograms.{IsOperation}
use Rattle.interpreter.specs.resolved_code.declared.operations.Operation.{Operation}
use Rattle.interpreter.specs.threads_monitors.Frames.{Frames}
use Rattle.interpreter.specs.threads_monitors.declared.threads.ThreadStatus.TheVariants.{Live}
use Rattle.interpreter.specs.Instructions.{HasSmallConstant, IsAt, line_at, operation_transition}
use Rattle.simulation.specs.MachineStates.{MachineState, mutator_of}
use Rattle.simulation.specs.ReadySteps.{IsReady}
use Rattle.simulation.specs.Refines.{Names, IsFrame, AreFrames, IsThread, StatusRefines, Represents}
use Rattle.simulation.proofs.ListLaws.AgreeingLists.{agree_at}
use Rattle.simulation.proofs.Instructions.Correspondence.{IsSetting, DoesAlike, InstructionsAreAlike}
use Rattle.simulation.proofs.ProgramSizes.LimitRanges.{budget_is_small}
use Rattle.interpreter.proofs.cil_model.Lists.{none_is_some}
use Rattle.simulation.proofs.Threads.LiveThreads.{normally, own_frames, own_memory, own_model, own_names, own_phase_is}

-- ---- a live thread

-- a setting of a thread's step
abbrev pub setting_of : MachineState → ℕ → Bool → StepContext
setting_of c t refused = record { tree = c.tree; limits = c.limits; thread = t; is_refused = refused }

-- the thread of the reference machine lives, with frames that those of the machine represent, and the same number of steps left
pub record IsAlive (c : MachineState) (s : State) (name : Names) (t left : ℕ) (m : Frames) : Type 0 where
  pub thread : StateThread
  pub there : slice_get s.threads t ≡ Some thread
  pub running : StateFrame
  pub below : List StateFrame
  pub frames_are : thread.frames ≡ running ∷ below
  pub lives : thread.ended ≡ None
  pub steps : left ≡ thread.steps_left
  pub frames : AreFrames c.tree c.limits name m (running ∷ below)

module _ (c : MachineState) (s : State) (r : Represents c s) (t left : ℕ) (m : Frames) (there : slice_get c.threads t ≡ Some (record { thread_status = Live m; steps_left = left })) where
  pub is_alive : IsAlive c s (own_names c s r t left m there) t left m
  is_alive =
      let found = agree_at (IsThread c.tree c.limits names) c.threads s.threads (normally c s r).by.threads t (record { thread_status = Live m; steps_left = left }) there in
      by_thread found.0 found.1 found.2.steps_left found.0.frames found.0.ended refl refl found.2.thread_status
    where
      names : Names
      names = (normally c s r).name

      by_thread : (u : StateThread) → slice_get s.threads t ≡ Some u → left ≡ u.steps_left → (fs : List StateFrame) (e : Option End) → u.frames ≡ fs → u.ended ≡ e → StatusRefines c.tree c.limits names (Live m) fs e →
          IsAlive c s (own_names c s r t left m there) t left m
      by_thread u at steps [] None is lives h = elim h.frames [ ]
      by_thread u at steps (f ∷ fs) None is lives h = record { thread = u; there = at; running = f; below = fs; frames_are = is; lives = lives; steps = steps; frames = own_frames c s r t left m there (f ∷ fs) h }
      by_thread u at steps fs (Some e) is lives h = elim h [ ]

  module _ (refused : Bool) where
    -- it is at an instruction
    pub is_running : (i : Instruction) × (instruction_at is_alive.running ≡ Some i) × IsRunning (setting_of c t refused) s is_alive.running is_alive.below i
    is_running =
        runs_at (setting_of c t refused) r.accepted s r.typed is_alive.running is_alive.below
        (subst (AreTypedFrames c.tree s) is_alive.frames_are (r.typed.threads t is_alive.thread is_alive.there is_alive.lives))

    -- that which a resolved one there represents
    pub in_setting : (operation : Operation) → IsAt c.tree m operation → HasSmallConstant operation →
        IsSetting (setting_of c t refused) (own_model c s r t left m there) (own_names c s r t left m there) m c.objects c.statics c.printed s is_alive.running is_alive.below is_running.0 operation
    in_setting operation at constant = record {
      running = is_running.2;
      counted = r.counted;
      budget = budget_is_small c.limits r.limits;
      resolved = subst (λ x. IsOperation c.tree (lines_of f.method) x operation) same_instruction (subst (λ (x : ClassName × Method). IsOperation c.tree (lines_of x.1) at.line.instruction operation) same_method at.refines);
      constant = constant;
      frames = is_alive.frames;
      memory = own_memory c s r t left m there;
    }
      where
        f : StateFrame
        f = is_alive.running

        own : IsFrame c.tree (own_names c s r t left m there) m.running f
        own = is_alive.frames.frames.0

        same_method : at.found ≡ (f.owner, f.method)
        same_method = same_Some at.found (f.owner, f.method) (sym at.found_is ∙ own.method)

        line_there : slice_get (lines_of f.method) f.pc ≡ Some at.line
        line_there =
            subst (λ (x : ClassName × Method). slice_get (lines_of x.1) f.pc ≡ Some at.line) same_method
            (subst (λ p. slice_get (lines_of at.found.1) p ≡ Some at.line) own.pc at.line_is)

        same_instruction : at.line.instruction ≡ is_running.0
        same_instruction = same_Some at.line.instruction is_running.0 (sym (ap (option_map (λ (l : Line). l.instruction)) line_there) ∙ is_running.1)

-- ---- each live thread is ready

module _ (each : InstructionsAreAlike) where
  pub does_alike : (c : MachineState) (s : State) (r : Represents c s) (t left : ℕ) (m : Frames) (there : slice_get c.threads t ≡ Some (record { thread_status = Live m; steps_left = left })) (refused : Bool) →
      (operation : Operation) → IsAt c.tree m operation → HasSmallConstant operation →
      DoesAlike (setting_of c t refused) (own_model c s r t left m there) (own_names c s r t left m there) m c.objects c.statics c.printed s (is_alive c s r t left m there).running (is_alive c s r t left m there).below
      (operation_transition c.tree (mutator_of c t) operation m c.objects c.statics c.printed)
      (execute (setting_of c t refused) s (is_alive c s r t left m there).running (is_alive c s r t left m there).below (is_running c s r t left m there refused).0)
  does_alike c s r t left m there refused operation at constant =
      subst
      (λ u. DoesAlike (setting_of c t refused) (own_model c s r t left m there) (own_names c s r t left m there) m c.objects c.statics c.printed s (is_alive c s r t left m there).running (is_alive c s r t left m there).below
      (operation_transition c.tree u operation m c.objects c.statics c.printed)
      (execute (setting_of c t refused) s (is_alive c s r t left m there).running (is_alive c s r t left m there).below (is_running c s r t left m there refused).0))
      (ap (λ p. record { number = t; phase = p }) (own_phase_is c s r t left m there))
      (each (setting_of c t refused) (own_model c s r t left m there) (own_names c s r t left m there) m c.objects c.statics c.printed s (is_alive c s r t left m there).running (is_alive c s r t left m there).below
      (is_running c s r t left m there refused).0 operation (in_setting c s r t left m there refused operation at constant))

  pub live_is_ready : (c : MachineState) (s : State) → Represents c s → (t left : ℕ) (m : Frames) → slice_get c.threads t ≡ Some (record { thread_status = Live m; steps_left = left }) → IsReady c t m
  live_is_ready c s r t left m there = record {
    pc = subst IsSome (sym line_is) line_there;
    there = λ operation at constant. subst IsSome (sym (does_alike c s r t left m there false operation at constant).is) refl;
  }
    where
      f : StateFrame
      f = (is_alive c s r t left m there).running

      own : IsFrame c.tree (own_names c s r t left m there) m.running f
      own = (is_alive c s r t left m there).frames.frames.0

      -- the line of the frame
      line_in : (o : Option Line) (i : Instruction) → option_map (λ (l : Line). l.instruction) o ≡ Some i → IsSome o
      line_in None i e = none_is_some i e
      line_in (Some l) i e = refl

      line_there : IsSome (slice_get (lines_of f.method) f.pc)
      line_there = line_in (slice_get (lines_of f.method) f.pc) (is_running c s r t left m there false).0 (is_running c s r t left m there false).1

      line_is : line_at c.tree m ≡ slice_get (lines_of f.method) f.pc
      line_is = ap (option_and_then (λ (x : ClassName × Method). slice_get (lines_of x.1) m.running.pc)) own.method ∙ ap (slice_get (lines_of f.method)) own.pc

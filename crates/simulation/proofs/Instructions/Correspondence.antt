-- What it means that an instruction does the same on a machine as on the reference machine.
use Rattle.std.proofs.Common.{◌≡◌, ◌⊎◌, ◌<◌, ◌≤◌, ℕ, Bool, true, false, List, [], ◌∷◌, Some, refl}
use Rattle.interpreter.specs.cil_model.declared.limits.TheConstants.{MOST_BUDGET}
use Rattle.interpreter.specs.cil_model.declared.reports.Fault.{Fault}
use Rattle.interpreter.specs.cil_model.declared.reports.Fault.TheVariants.{OutOfMemory}
use Rattle.interpreter.specs.cil_model.declared.instructions.Instruction.{Instruction}
use Rattle.interpreter.specs.cil_model.Bodies.{lines_of}
use Rattle.interpreter.specs.reference_machine.Values.{Value as StateValue}
use Rattle.interpreter.specs.reference_machine.Rooms.{cell_words}
use Rattle.interpreter.specs.reference_machine.States.{Contents, Frame, State, with_birth}
use Rattle.simulation.specs.Counts.{IsCounted}
use Rattle.interpreter.specs.reference_machine.Effects.{StepContext, Effect as StateEffect, Goes, Blocks as StateBlocks, Raises as StateRaises}
use Rattle.interpreter.specs.reference_machine.BuiltIn.{Action, Start, Join, act}
use Rattle.interpreter.specs.reference_machine.Steps.{execute}
use Rattle.reference_machine.proofs.TypedStates.RunningFrames.{IsRunning}
use Rattle.interpreter.specs.resolved_code.ResolvedPrograms.{IsOperation}
use Rattle.interpreter.specs.resolved_code.declared.operations.Operation.{Operation}
use Rattle.interpreter.specs.object_memory.declared.addresses.Addr.{Addr}
use Rattle.interpreter.specs.object_memory.declared.values.Value.{Value}
use Rattle.interpreter.specs.object_memory.declared.values.Value.TheVariants.{Ref}
use Rattle.interpreter.specs.object_memory.Objects.{Objects}
use Rattle.interpreter.specs.object_memory.Spaces.{room_for}
use Rattle.interpreter.specs.threads_monitors.Frames.{Frames}
use Rattle.interpreter.specs.threads_monitors.declared.effects.Effect.{Effect}
use Rattle.interpreter.specs.threads_monitors.declared.effects.Effect.TheVariants.{Continues, Returns, Blocks, Raises}
use Rattle.interpreter.specs.declared.outcomes.InstructionOutcome.{InstructionOutcome}
use Rattle.interpreter.specs.declared.outcomes.InstructionOutcome.TheVariants.{OwnEffect, Starts, Joins}
use Rattle.interpreter.specs.Instructions.{HasSmallConstant, MachineTransition, operation_transition, Answer}
use Rattle.simulation.specs.Refines.{Names, Extends, IsValue, AreFrames}
use Rattle.interpreter.proofs.cil_model.SameLaws.{never}
use Rattle.simulation.proofs.Memory.MemoryModels.{MemoryModel, IsModelled, mutator_in}

-- ---- one instruction

-- A machine is where the reference machine is: at the same instruction, with the frames of the thread and all else that an
-- instruction touches, of a typed state.
pub record IsSetting (here : StepContext) (model : MemoryModel here.tree) (name : Names) (m : Frames) (o : Objects) (statics : List Value) (printed : List ℕ)
    (s : State) (f : Frame) (below : List Frame) (i : Instruction) (operation : Operation) : Type 0 where
  pub running : IsRunning here s f below i
  pub counted : IsCounted here.limits s
  pub budget : here.limits.budget ≤ MOST_BUDGET
  pub resolved : IsOperation here.tree (lines_of f.method) i operation
  pub constant : HasSmallConstant operation
  pub frames : AreFrames here.tree here.limits name m (f ∷ below)
  pub memory : IsModelled here.tree model name o statics printed s

-- whether memory was refused
abbrev pub is_refused_fault : Fault → Bool
is_refused_fault OutOfMemory = true
is_refused_fault _ = false

abbrev pub is_refused_effect : Effect → Bool
is_refused_effect (Raises x) = is_refused_fault x
is_refused_effect Continues = false
is_refused_effect Returns = false
is_refused_effect Blocks = false

abbrev pub is_refused_outcome : InstructionOutcome → Bool
is_refused_outcome (OwnEffect e) = is_refused_effect e
is_refused_outcome (Starts a) = false
is_refused_outcome (Joins a) = false

-- a fault that is
pub refused_fault : (x : Fault) → is_refused_fault x ≡ true → StateRaises x ≡ StateRaises OutOfMemory
refused_fault OutOfMemory h = refl
refused_fault _ h = never h

module _ (here : StepContext) (model : MemoryModel here.tree) (name : Names) (m : Frames) (o : Objects) (statics : List Value) (printed : List ℕ) (s : State) (f : Frame) (below : List Frame) where
  -- the thread continues with the same frames, in the same memory, in which nothing lost its name
  pub record GoesAlike (a : Answer) (e : StateEffect) : Type 0 where
    pub running : Frame
    pub waiting : List Frame
    pub state : State
    pub is : e ≡ Goes (running ∷ waiting) state
    pub names : Names
    pub extends : Extends name names
    pub others : state.threads ≡ s.threads
    pub frames : AreFrames here.tree here.limits names a.frames (running ∷ waiting)
    pub memory : IsModelled here.tree model names a.objects a.statics a.printed state

  -- nothing is changed but the frames
  abbrev pub LeavesMemory : Answer → Type 0
  LeavesMemory a = (a.objects ≡ o) × (a.statics ≡ statics) × (a.printed ≡ printed)

  -- Nothing is changed at all, and the reference machine does this action on the object that is the one operand.
  pub record AsksFor (action : Action) (object : Addr) (a : Answer) (e : StateEffect) : Type 0 where
    pub operand : StateValue
    pub rest : List StateValue
    pub stack : f.stack ≡ operand ∷ rest
    pub refines : IsValue name (Ref object) operand
    pub is : e ≡ act here s f below action (operand ∷ []) rest
    pub frames : a.frames ≡ m
    pub memory : LeavesMemory a

  -- the outcome of an instruction, and the same of the reference machine
  abbrev pub EffectsAlike : InstructionOutcome → Answer → StateEffect → Type 0
  EffectsAlike (OwnEffect Continues) a e = GoesAlike a e
  EffectsAlike (OwnEffect Returns) a e = (e ≡ Goes [] s) × LeavesMemory a
  EffectsAlike (OwnEffect Blocks) a e = (e ≡ StateBlocks) × (a.frames ≡ m) × LeavesMemory a
  EffectsAlike (OwnEffect (Raises x)) a e = (e ≡ StateRaises x) × LeavesMemory a
  EffectsAlike (Starts object) a e = AsksFor Start object a e
  EffectsAlike (Joins object) a e = AsksFor Join object a e

  -- an object is born on the reference machine, whose cell exceeds the room of the machine
  pub record HasNoOwnRoom (e : StateEffect) : Type 0 where
    pub running : Frame
    pub waiting : List Frame
    pub contents : Contents
    pub is : e ≡ Goes (running ∷ waiting) (with_birth s contents)
    pub exceeds : room_for model.phase o.spaces < cell_words here.tree contents

  -- The rule has a result, and where the reference machine is refused memory exactly where the machine is, both do the same. The machine is refused
  -- it only where the reference machine, if it weren't, would make an object that exceeds the room.
  pub record DoesAlike (transition : MachineTransition) (e : StateEffect) : Type 0 where
    pub answer : Answer
    pub is : transition ≡ Some answer
    pub alike : here.is_refused ≡ is_refused_outcome answer.outcome → EffectsAlike answer.outcome answer e
    pub refuses : here.is_refused ≡ false → is_refused_outcome answer.outcome ≡ true → HasNoOwnRoom e ⊎ (e ≡ StateRaises OutOfMemory)

-- each instruction does, in each kind of memory
abbrev pub InstructionsAreAlike : Type 1
InstructionsAreAlike =
    (here : StepContext) (model : MemoryModel here.tree) (name : Names) (m : Frames) (o : Objects) (statics : List Value) (printed : List ℕ) (s : State) (f : Frame) (below : List Frame) (i : Instruction) (operation : Operation) →
    IsSetting here model name m o statics printed s f below i operation →
    DoesAlike here model name m o statics printed s f below (operation_transition here.tree (mutator_in here model) operation m o statics printed) (execute here s f below i)

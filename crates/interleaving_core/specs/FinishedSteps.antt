-- A step of a thread in two halves: its instruction, and the outcome of that. This is where the first one ends.
use Rattle.std.specs.Prelude.{◌≡◌, ℕ, Some, slice_get}
use Rattle.threads_monitors.specs.Frames.{Frames}
use Rattle.simulation.specs.interpreter.Instructions.{IsDone, Answer}
use Rattle.simulation.specs.interpreter.declared.outcomes.InstructionOutcome.{InstructionOutcome}
use Rattle.simulation.specs.MachineStates.{MachineState, mutator_of}
use Rattle.simulation.specs.Transitions.{left_by, live_thread}

-- the thread's instruction is done and had this outcome, and its step isn't counted yet
pub record IsInstructed (c : MachineState) (t : ℕ) (outcome : InstructionOutcome) (after : MachineState) : Type 0 where
  pub left : ℕ
  pub frames : Frames
  pub answer : Answer
  pub there : slice_get c.threads t ≡ Some (live_thread left frames)
  pub done : IsDone c.tree (mutator_of c t) frames c.objects c.statics c.printed answer
  pub gives : answer.outcome ≡ outcome
  pub is : after ≡ left_by c t left answer

-- Two machines of which the second is ahead by local instructions, which no other thread observes (this profile).
use Rattle.std.specs.Prelude.{◌≡◌, ℕ, List}
use Rattle.interleaving_core.specs.simulation.cil_model.declared.trees.Tree.{Tree}
use Rattle.interleaving_core.specs.simulation.object_memory.Objects.{Objects}
use Rattle.interleaving_core.specs.simulation.object_memory.declared.values.Value.{Value}
use Rattle.interleaving_core.specs.simulation.threads_monitors.Frames.{Frames}
use Rattle.interleaving_core.specs.simulation.threads_monitors.declared.effects.Effect.TheVariants.{Continues}
use Rattle.interleaving_core.specs.simulation.threads_monitors.declared.mutators.Mutator.{Mutator}
use Rattle.interleaving_core.specs.simulation.threads_monitors.declared.threads.ThreadStatus.{ThreadStatus}
use Rattle.interleaving_core.specs.simulation.threads_monitors.declared.threads.ThreadStatus.TheVariants.{Live, Ended}
use Rattle.interleaving_core.specs.simulation.threads_monitors.declared.threads.Thread.{Thread}
use Rattle.interleaving_core.specs.simulation.interpreter.declared.outcomes.InstructionOutcome.TheVariants.{OwnEffect}
use Rattle.interleaving_core.specs.simulation.interpreter.Instructions.{IsDone, answer_of}
use Rattle.interleaving_core.specs.simulation.Agreement.{Agree}
use Rattle.interleaving_core.specs.simulation.MachineStates.{MachineState}

-- An instruction leads from these frames to those after it, and its thread continues. It reads and changes the frames alone: it does the same for all objects,
-- static fields and printed bytes, for each thread and in each phase.
pub record IsLocalMove (tree : Tree) (m after : Frames) : Type 0 where
  pub done : (mutator : Mutator) (o : Objects) (statics : List Value) (printed : List ℕ) → IsDone tree mutator m o statics printed (answer_of after o statics printed (OwnEffect Continues))

-- any number of such instructions lead from the first frames to the second
pub data IsAhead (tree : Tree) : Frames → Frames → Type 0 where
  here : (m : Frames) → IsAhead tree m m
  onward : (m next last : Frames) → IsLocalMove tree m next → IsAhead tree next last → IsAhead tree m last

-- both threads are live, and the second may be ahead; or both ended in the same way
abbrev pub IsStatusLagging : Tree → ThreadStatus → ThreadStatus → Type 0
IsStatusLagging tree (Live m) (Live n) = IsAhead tree m n
IsStatusLagging tree (Ended e) (Ended f) = e ≡ f
IsStatusLagging tree (Live m) (Ended f) = ⊥
IsStatusLagging tree (Ended e) (Live n) = ⊥

-- the same for threads with any remaining steps
abbrev pub IsThreadLagging : Tree → Thread → Thread → Type 0
IsThreadLagging tree x y = IsStatusLagging tree x.thread_status y.thread_status

-- the machine states differ in their threads alone: each thread of the second may be ahead, and have other remaining steps
pub record IsLagging (c d : MachineState) : Type 0 where
  pub rest : d ≡ record c { threads = d.threads }
  pub threads : Agree (IsThreadLagging c.tree) c.threads d.threads

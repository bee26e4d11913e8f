-- When a thread's next instruction has a result, and what it asks of other threads can be answered (this profile).
use Rattle.std.specs.Prelude.{◌≡◌, ◌≢◌, ◌<◌, ℕ, true, IsSome, length, None}
use Rattle.interpreter.specs.cil_model.declared.limits.TheConstants.{MOST_INSTRUCTIONS}
use Rattle.interpreter.specs.resolved_code.declared.operations.Operation.{Operation}
use Rattle.interpreter.specs.object_memory.declared.addresses.Addr.{Addr}
use Rattle.interpreter.specs.object_memory.Cells.{null}
use Rattle.interpreter.specs.object_memory.Objects.{Objects, object_slots}
use Rattle.interpreter.specs.instructions.barriers.Barriers.{is_word_storable}
use Rattle.interpreter.specs.threads_monitors.Frames.{Frames}
use Rattle.interpreter.specs.threads_monitors.Threads.{start_fault}
use Rattle.interpreter.specs.Instructions.{HasSmallConstant, IsAt, line_at, operation_transition, Answer}
use Rattle.interpreter.specs.declared.outcomes.InstructionOutcome.{InstructionOutcome}
use Rattle.interpreter.specs.declared.outcomes.InstructionOutcome.TheVariants.{OwnEffect, Starts, Joins}
use Rattle.simulation.specs.MachineStates.{MachineState, mutator_of}
use Rattle.simulation.specs.Transitions.{left_by, thread_for}

-- the frames of the thread are at an instruction, whose rule has a result
pub record IsReady (c : MachineState) (t : ℕ) (m : Frames) : Type 0 where
  pub pc : IsSome (line_at c.tree m)
  pub there : (op : Operation) → IsAt c.tree m op → HasSmallConstant op → IsSome (operation_transition c.tree (mutator_of c t) op m c.objects c.statics c.printed)

-- the slot of an object that identifies its thread is there, and so are the operand and the next instruction
pub record HasRequest (o : Objects) (m : Frames) (object : Addr) : Type 0 where
  pub slot : object ≢ null → 0 < length (object_slots o object)
  pub operand : 0 < length m.running.stack
  pub following : m.running.pc < MOST_INSTRUCTIONS

-- what the thread with these frames asks of other threads can be answered
abbrev pub CanFinish : MachineState → ℕ → Frames → InstructionOutcome → Type 0
CanFinish c t m (OwnEffect e) = Unit {0}
CanFinish c t m (Starts object) =
    HasRequest c.objects m object
    × (object ≢ null → is_word_storable (mutator_of c t).phase c.objects object 0 ≡ true)
    × (start_fault c.threads c.objects object ≡ None → IsSome (thread_for c.tree c.limits c.objects object))
CanFinish c t m (Joins object) = HasRequest c.objects m object

-- and so it is for what an instruction leaves
abbrev pub IsAnswerable : MachineState → ℕ → ℕ → Answer → InstructionOutcome → Type 0
IsAnswerable c t left a outcome = CanFinish (left_by c t left a) t a.frames outcome

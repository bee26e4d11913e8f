-- What a machine holds (this profile).
use Rattle.std.specs.Prelude.{ℕ, ◌+◌, List}
use Rattle.interpreter.specs.cil_model.declared.trees.Tree.{Tree}
use Rattle.interpreter.specs.cil_model.declared.limits.Limits.{Limits}
use Rattle.interpreter.specs.cil_model.declared.limits.TheConstants.{MOST_ARGUMENTS, MOST_LOCALS}
use Rattle.collector.specs.phase_handshake.Handshakes.{Handshakes, own_phase}
use Rattle.collector.specs.declared.progress.Progress.{Progress}
use Rattle.interpreter.specs.object_memory.declared.values.Value.{Value}
use Rattle.interpreter.specs.object_memory.Objects.{Objects}
use Rattle.interpreter.specs.threads_monitors.declared.mutators.Mutator.{Mutator}
use Rattle.interpreter.specs.threads_monitors.declared.threads.Thread.{Thread}

-- the program with the limits of its run, the threads by number, what is posted and acknowledged, how far the collector is, the objects,
-- the static fields by number, and what was printed
pub record MachineState : Type 0 where
  pub tree : Tree
  pub limits : Limits
  pub threads : List Thread
  pub posts : Handshakes
  pub progress : Progress
  pub objects : Objects
  pub statics : List Value
  pub printed : List ℕ

-- a thread, as the collector sees it
abbrev pub mutator_of : MachineState → ℕ → Mutator
mutator_of c t = record { number = t; phase = own_phase c.posts t }

-- How many values a frame may hold: arguments, locals, and on the stack the most that a method may have, 64; and one more, the new
-- object that newobj puts beneath the operands of a constructor before they become its arguments.
abbrev pub frame_room : ℕ
frame_room = MOST_ARGUMENTS + (MOST_LOCALS + 65)

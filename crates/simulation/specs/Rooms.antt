-- When a machine refuses a birth: exactly where the new object's cell exceeds the room that the phase of its thread has for it (this profile).
use Rattle.std.specs.Prelude.{◌≡◌, ℕ, ◌++◌, if◌then◌else◌, false, IsTrue, [], ◌∷◌, Some, None}
use Rattle.interpreter.specs.cil_model.declared.reports.Report.{Report}
use Rattle.interpreter.specs.reference_machine.Cycles.{SpaceSizes, is_refused}
use Rattle.interpreter.specs.reference_machine.Rooms.{cell_words}
use Rattle.interpreter.specs.reference_machine.States.{HeapObject, State}
use Rattle.interpreter.specs.reference_machine.Steps.{Answers, step}
use Rattle.interpreter.specs.object_memory.Cells.{used_words}
use Rattle.interpreter.specs.object_memory.Objects.{Objects, used_space}
use Rattle.collector.specs.phase_handshake.Handshakes.{own_phase}
use Rattle.simulation.specs.MachineStates.{MachineState}

-- the spaces of a heap, as a user sees them
abbrev pub spaces_of : Objects → SpaceSizes
spaces_of o = record {
  old = record { words = o.spaces.old.words; used = used_space o };
  newer = if o.spaces.is_open then Some (record { words = o.spaces.new.words; used = used_words o.spaces.new.cells }) else None;
}

-- A step of the thread makes an object, unless that is refused, and its cell exceeds the room where the thread's own phase has it born.
pub record HasNoRoom (c : MachineState) (s : State) (t : ℕ) : Type 0 where
  pub report : Report
  pub after : State
  pub object : HeapObject
  pub without_refusal : step c.tree c.limits s t false ≡ Answers report after
  pub is_born : after.objects ≡ s.objects ++ object ∷ []
  pub exceeds : IsTrue (is_refused (spaces_of c.objects) (own_phase c.posts t) (cell_words c.tree object.contents))

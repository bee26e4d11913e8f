-- The columns of a line of a trace (this profile).
use Rattle.std.specs.Prelude.{◌++◌, ℕ, List, [], ◌∷◌, Option, Some, None, codes, decimal, option_and_then, option_map, slice_get}
use Rattle.cil_model.specs.declared.types.ClassName.{ClassName}
use Rattle.cil_model.specs.declared.events.Event.{Event}
use Rattle.cil_model.specs.declared.events.Event.TheVariants.{Step, Ack, Gc}
use Rattle.cil_model.specs.declared.phases.Phase.{Phase}
use Rattle.cil_model.specs.declared.phases.Phase.TheVariants.{Idle, Mark, Allocate, Copy, PreFlip, HeapFlip, ThreadFlip, Reclaim}
use Rattle.cil_model.specs.declared.reports.End.TheVariants.{Done, Budget, Fault}
use Rattle.cil_model.specs.declared.reports.Report.{Report}
use Rattle.cil_model.specs.declared.reports.Report.TheVariants.{Ran, Blocked, Ended, Absent, Acked, NothingPosted, Worked, Waiting, CycleDone}
use Rattle.cil_model.specs.declared.trees.Line.{Line}
use Rattle.cil_model.specs.declared.trees.Method.{Method}
use Rattle.cil_model.specs.declared.trees.Tree.{Tree}
use Rattle.cil_model.specs.Bodies.{lines_of}
use Rattle.cil_model.specs.ExceptionNames.{name_of as fault_text}
use Rattle.object_memory.specs.Cells.{used_words}
use Rattle.object_memory.specs.Objects.{used_space}
use Rattle.name_tables.specs.Numbers.{method_at}
use Rattle.interleaving_core.specs.simulation.MachineStates.{MachineState}
use Rattle.interleaving_core.specs.Positions.{position_at}
use Rattle.interleaving_core.specs.declared.positions.Position.{Position}
use Rattle.interleaving_core.specs.Views.{phase_at}
use Rattle.schedule_text.specs.Items.{name_of as event_text}
use Rattle.instruction_text.specs.Texts.{class_text, instruction_text, method_name_text}
use Rattle.event_trace.specs.declared.columns.EventColumns.{EventColumns}
use Rattle.event_trace.specs.declared.columns.HeapColumns.{HeapColumns}

-- ---- the report

abbrev pub report_text : Report → List ℕ
report_text Ran = codes "ran"
report_text Blocked = codes "blocked"
report_text (Ended Done) = codes "done"
report_text (Ended Budget) = codes "budget"
report_text (Ended (Fault fault)) = fault_text fault
report_text Absent = codes "absent"
report_text Acked = codes "acked"
report_text NothingPosted = codes "nothing-posted"
report_text Worked = codes "worked"
report_text Waiting = codes "waiting"
report_text CycleDone = codes "cycle-done"

-- ---- phases

abbrev pub phase_text : Phase → List ℕ
phase_text Idle = codes "idle"
phase_text Mark = codes "mark"
phase_text Allocate = codes "allocate"
phase_text Copy = codes "copy"
phase_text PreFlip = codes "pre-flip"
phase_text HeapFlip = codes "heap-flip"
phase_text ThreadFlip = codes "thread-flip"
phase_text Reclaim = codes "reclaim"

-- ---- where the thread is

-- two spaces and the instruction, where there is one
abbrev pub line_text : Option Line → List ℕ
line_text None = []
line_text (Some line) = codes "  " ++ instruction_text line.instruction

-- a pc in a method that is known with its class
abbrev pub position_text : ClassName × Method → ℕ → List ℕ
position_text found n = class_text found.0 ++ codes "::" ++ method_name_text found.1.name ++ codes "+" ++ decimal n ++ line_text (slice_get (lines_of found.1) n)

-- the thread of an event; none of one of the collector
abbrev pub thread_of : Event → Option ℕ
thread_of (Step t) = Some t
thread_of (Ack t) = Some t
thread_of Gc = None

-- where the thread of an event is
abbrev pub position_for : MachineState → Event → Option Position
position_for c e = option_and_then (position_at c.tree c.threads) (thread_of e)

-- the method at a position, with its class, and the pc
abbrev pub found_at : Tree → Position → Option ((ClassName × Method) × ℕ)
found_at tree p = option_map (λ (found : ClassName × Method). (found, p.pc)) (method_at tree (p.method.class, p.method.index))

-- ---- columns

-- the instruction at a pc, or a hyphen
abbrev pub instruction_column : Option ((ClassName × Method) × ℕ) → List ℕ
instruction_column None = codes "-"
instruction_column (Some at) = position_text at.0 at.1

-- how many frames a thread has, and how high the stack of the one that runs is, or hyphens
abbrev pub size_columns : Option Position → List ℕ
size_columns None = codes "-" ++ 9 ∷ codes "-"
size_columns (Some p) = decimal p.frames ++ 9 ∷ decimal p.height

-- the phase that a thread has acknowledged, or a hyphen
abbrev pub own_column : Option Phase → List ℕ
own_column None = codes "-"
own_column (Some phase) = phase_text phase

-- the words that objects take in the old space, or the only one, and in the new one, the phase that is posted, and the one of a thread
abbrev pub heap_columns : HeapColumns → List ℕ
heap_columns h = decimal h.old_words ++ 9 ∷ decimal h.new_words ++ 9 ∷ phase_text h.posted_phase ++ 9 ∷ own_column h.own

-- their values for a machine state and the thread of an event
abbrev pub heap_for : MachineState → Event → HeapColumns
heap_for c e = record {
  old_words = used_space c.objects;
  new_words = used_words c.objects.spaces.new.cells;
  posted_phase = c.posts.posted_phase;
  own = option_and_then (phase_at c.posts) (thread_of e);
}

-- the number of an event, the event and its report
abbrev pub event_columns : EventColumns → List ℕ
event_columns e = decimal e.number ++ 9 ∷ event_text e.event ++ 9 ∷ report_text e.report

-- The number of an event, the event, its report, where its thread was before it, its frames and its stack after it, and the heap and the phases then:
-- a tab between two, and a line feed after all.
abbrev pub columns_text : EventColumns → Option ((ClassName × Method) × ℕ) → Option Position → HeapColumns → List ℕ
columns_text event before after heap = event_columns event ++ 9 ∷ instruction_column before ++ 9 ∷ size_columns after ++ 9 ∷ heap_columns heap ++ 10 ∷ []

-- the line of an event from one machine state to the next
abbrev pub line_of : ℕ → Event → Report → MachineState → MachineState → List ℕ
line_of n e r before after =
    columns_text (record { number = n; event = e; report = r }) (option_and_then (found_at before.tree) (position_for before e)) (position_for after e) (heap_for after e)

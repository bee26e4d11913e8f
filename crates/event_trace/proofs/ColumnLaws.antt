-- Columns are printable.
use Rattle.std.proofs.Common.{◌≡◌, ◌++◌, ℕ, List, [], ◌∷◌, Option, Some, None, codes, refl, ap, ◌∙◌, append_assoc}
use Rattle.std.specs.Prelude.{All, decimal, option_and_then}
use Rattle.cil_model.specs.declared.reports.End.TheVariants.{Fault as ByFault}
use Rattle.cil_model.specs.declared.reports.Fault.{Fault}
use Rattle.cil_model.specs.declared.reports.Fault.TheVariants as fault
use Rattle.cil_model.specs.declared.reports.Report.TheVariants.{Ended}
use Rattle.cil_model.specs.ExceptionNames.{name_of as fault_text}
use Rattle.cil_model.specs.declared.phases.Phase.{Phase}
use Rattle.cil_model.specs.declared.phases.Phase.TheVariants.{Idle}
use Rattle.interleaving_core.specs.declared.positions.Position.{Position}
use Rattle.instruction_text.proofs.Printable.{Printable, both, printable_class, printable_decimal, printable_instruction, printable_method_name, word}
use Rattle.event_trace.proofs.Names.{All-cons, All-nil, ClassName, Line, Method, Event, Step, Ack, Gc, Report, event_text, IsPrintable, found_at, heap_columns, heap_for, instruction_column, line_text, own_column, phase_text, position_for, report_text, size_columns, LinesHaveColumns}

printable_event : (e : Event) → Printable (event_text e)
printable_event (Step t) = both (word (codes "s") refl) (printable_decimal t)
printable_event (Ack t) = both (word (codes "a") refl) (printable_decimal t)
printable_event Gc = word (codes "g") refl

printable_fault : (f : Fault) → Printable (fault_text f)
printable_fault fault.NullReference = word (fault_text fault.NullReference) refl
printable_fault f = word (fault_text f) refl

printable_report : (r : Report) → Printable (report_text r)
printable_report (Ended (ByFault f)) = printable_fault f
printable_report r = word (report_text r) refl

printable_phase : (p : Phase) → Printable (phase_text p)
printable_phase Idle = word (phase_text Idle) refl
printable_phase p = word (phase_text p) refl

printable_own : (p : Option Phase) → Printable (own_column p)
printable_own None = word (codes "-") refl
printable_own (Some p) = printable_phase p

printable_line : (o : Option Line) → Printable (line_text o)
printable_line None = word [] refl
printable_line (Some line) = both (word (codes "  ") refl) (printable_instruction line.instruction)

printable_instruction_column : (at : Option ((ClassName × Method) × ℕ)) → Printable (instruction_column at)
printable_instruction_column None = word (codes "-") refl
printable_instruction_column (Some at) =
    both (both (both (both (both (printable_class at.0.0) (word (codes "::") refl)) (printable_method_name at.0.1.name)) (word (codes "+") refl)) (printable_decimal at.1)) (printable_line _)

-- the columns of a thread's frames and of its stack
pub record SizeColumns (after : Option Position) : Type 0 where
  pub frames : List ℕ
  pub height : List ℕ
  pub frames_printable : Printable frames
  pub height_printable : Printable height
  pub are : size_columns after ≡ frames ++ 9 ∷ height

sizes_of : (after : Option Position) → SizeColumns after
sizes_of None = record { frames = codes "-"; height = codes "-"; frames_printable = word (codes "-") refl; height_printable = word (codes "-") refl; are = refl }
sizes_of (Some p) = record { frames = decimal p.frames; height = decimal p.height; frames_printable = printable_decimal p.frames; height_printable = printable_decimal p.height; are = refl }

-- columns that are all printable
record Columns (columns : List (List ℕ)) : Type 0 where
  printable : All IsPrintable columns

no_columns : Columns []
no_columns = record { printable = All-nil IsPrintable }

-- a column before others
at_front : {column : List ℕ} {columns : List (List ℕ)} → Printable column → Columns columns → Columns (column ∷ columns)
at_front {column = column} {columns = columns} p h = record { printable = All-cons IsPrintable column columns p.is h.printable }

grouped : (a b c d e f : List ℕ) → a ++ b ++ c ++ d ++ e ++ f ≡ a ++ (b ++ (c ++ (d ++ (e ++ f))))
grouped a b c d e f = append_assoc (a ++ b ++ c ++ d) e f ∙ (append_assoc (a ++ b ++ c) d (e ++ f) ∙ (append_assoc (a ++ b) c (d ++ (e ++ f)) ∙ append_assoc a b (c ++ (d ++ (e ++ f)))))

joined : (a b c d f h w : List ℕ) →
    a ++ 9 ∷ b ++ 9 ∷ c ++ 9 ∷ d ++ 9 ∷ (f ++ 9 ∷ h) ++ 9 ∷ w ++ 10 ∷ [] ≡ a ++ 9 ∷ (b ++ 9 ∷ (c ++ 9 ∷ (d ++ 9 ∷ (f ++ 9 ∷ (h ++ 9 ∷ w))))) ++ 10 ∷ []
joined a b c d f h w =
    ap (λ l. l ++ 10 ∷ [])
    (grouped a (9 ∷ b) (9 ∷ c) (9 ∷ d) (9 ∷ (f ++ 9 ∷ h)) (9 ∷ w) ∙ ap (λ l. a ++ 9 ∷ (b ++ 9 ∷ (c ++ 9 ∷ (d ++ 9 ∷ l)))) (append_assoc f (9 ∷ h) (9 ∷ w)))

-- the columns of the heap and the phases, one after another
heap_joined : (o n p q : List ℕ) → o ++ 9 ∷ n ++ 9 ∷ p ++ 9 ∷ q ≡ o ++ 9 ∷ (n ++ 9 ∷ (p ++ 9 ∷ q))
heap_joined o n p q = append_assoc (o ++ 9 ∷ n) (9 ∷ p) (9 ∷ q) ∙ append_assoc o (9 ∷ n) (9 ∷ p ++ 9 ∷ q)

pub line_columns : LinesHaveColumns
line_columns n e r before after =
    let at = option_and_then (found_at before.tree) (position_for before e) in
    let sizes = sizes_of (position_for after e) in
    let heap = heap_for after e in
    let old = decimal heap.old_words in
    let new = decimal heap.new_words in
    let posted_phase = phase_text heap.posted_phase in
    let own = own_column heap.own in
    let last = at_front (printable_decimal heap.old_words) (at_front (printable_decimal heap.new_words) (at_front (printable_phase heap.posted_phase) (at_front (printable_own heap.own) no_columns))) in
    let columns =
    at_front (printable_decimal n) (at_front (printable_event e) (at_front (printable_report r) (at_front (printable_instruction_column at)
    (at_front sizes.frames_printable (at_front sizes.height_printable last))))) in (
      decimal n ∷ event_text e ∷ report_text r ∷ instruction_column at ∷ sizes.frames ∷ sizes.height ∷ old ∷ new ∷ posted_phase ∷ own ∷ [],
      refl,
      record {
        printable = columns.printable;
        is = ap (λ (cs : List ℕ). decimal n ++ 9 ∷ event_text e ++ 9 ∷ report_text r ++ 9 ∷ instruction_column at ++ 9 ∷ cs ++ 9 ∷ heap_columns heap ++ 10 ∷ []) sizes.are
            ∙ joined (decimal n) (event_text e) (report_text r) (instruction_column at) sizes.frames sizes.height (heap_columns heap)
            ∙ ap (λ (cs : List ℕ). decimal n ++ 9 ∷ (event_text e ++ 9 ∷ (report_text r ++ 9 ∷ (instruction_column at ++ 9 ∷ (sizes.frames ++ 9 ∷ (sizes.height ++ 9 ∷ cs))))) ++ 10 ∷ []) (heap_joined old new posted_phase own);
      },
    )

-- Instructions with their lines of the source, as they are printed (this profile).
use Rattle.std.specs.Prelude.{◌++◌, ◌-◌, [], ℕ, if◌then◌else◌, List, nat_lt, Option, Some, None, codes, decimal, slice_get}
use Rattle.cil_model.specs.Bodies.{lines_of}
use Rattle.cil_model.specs.declared.trees.Method.{Method}
use Rattle.cil_model.specs.declared.types.ClassName.{ClassName}
use Rattle.event_trace.specs.Columns.{line_text}
use Rattle.event_trace.specs.interleaving_core.declared.positions.Position.{Position}
use Rattle.name_tables.specs.declared.ids.TheConstants.{FIRST_OF_SOURCE}
use Rattle.instruction_text.specs.Texts.{class_text, method_name_text}
use Rattle.source_lines.specs.Lines.{instruction_line}

-- the line of the instruction at a position, in the source of the program; a method of a built-in class has none
abbrev pub line_of : List ℕ → Position → Option ℕ
line_of source p = if nat_lt p.method.class FIRST_OF_SOURCE then None else instruction_line source (p.method.class - FIRST_OF_SOURCE) p.method.index p.pc

abbrev pub line_note : Option ℕ → List ℕ
line_note None = []
line_note (Some n) = codes " (line " ++ decimal n ++ codes ")"

-- an instruction by its position, as a trace has it, with its line where that is known; or a hyphen
abbrev pub located_text : Option ((ClassName × Method) × ℕ) → Option ℕ → List ℕ
located_text None line = codes "-"
located_text (Some at) line =
    class_text at.0.0 ++ codes "::" ++ method_name_text at.0.1.name ++ codes "+" ++ decimal at.1 ++ line_note line ++ line_text (slice_get (lines_of at.0.1) at.1)

-- The text of a line.
use Rattle.std.specs.Prelude.{ℕ, List, option_map}
use Rattle.cil_model.specs.declared.trees.Method.{Method}
use Rattle.cil_model.specs.declared.types.ClassName.{ClassName}
use Rattle.event_trace.specs.Columns.{columns_text}
use Rattle.event_trace.specs.MethodPositions.{class_and_method}
use Rattle.event_trace.specs.declared.lines.TraceLine.{TraceLine}
use Rattle.event_trace.specs.declared.owned_methods.InstructionPosition.{InstructionPosition}

-- the method and the pc of an instruction's position
abbrev pub method_and_pc : InstructionPosition → (ClassName × Method) × ℕ
method_and_pc at = (class_and_method at.found, at.pc)

abbrev pub text_of : TraceLine → List ℕ
text_of line = columns_text line.event (option_map method_and_pc line.before) line.after line.heap

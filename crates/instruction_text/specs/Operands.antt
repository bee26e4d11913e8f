-- The texts of what follows the word of an instruction.
use Rattle.std.specs.Prelude.{ℕ, List}
use Rattle.std.specs.Fmt.{signed_decimal}
use Rattle.instruction_text.specs.declared.instructions.Operand.{Operand}
use Rattle.instruction_text.specs.declared.instructions.Operand.TheVariants as operands
use Rattle.instruction_text.specs.Characters.{characters_text}
use Rattle.instruction_text.specs.Texts.{quoted_text, labels_text, field_text, type_text, method_text, virtual_text, constructor_text}

-- how an operand is written
abbrev pub text_of : Operand → List ℕ
text_of (operands.Number z) = signed_decimal z
text_of (operands.Quoted t) = quoted_text t.0.now
text_of (operands.Label t) = characters_text t.0.now
text_of (operands.Labels t) = labels_text t.0.now
text_of (operands.Field t) = field_text t.0.now
text_of (operands.Type t) = type_text t.0.now
text_of (operands.Method t) = method_text t.0.now
text_of (operands.Virtual t) = virtual_text t.0.now t.1.now t.2.now
text_of (operands.Constructor t) = constructor_text t.0.now t.1.now

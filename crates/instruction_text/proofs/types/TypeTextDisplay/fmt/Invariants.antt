use Rattle.std.proofs.Common.{◌++◌}
use Rattle.std.specs.Fmt.{HasWritten, IsPlainFormatter}
use Rattle.instruction_text.specs.Texts.{brackets_text, element_text}
use Rattle.instruction_text.proofs.types.TypeTextDisplay.fmt.Given as goal

-- the element and this number of brackets are written
abbrev pub invariant-loop-bracket : goal.invariant-loop-bracket
invariant-loop-bracket g l =
    IsPlainFormatter l.fn.f → HasWritten g.W.Write.write_str_gives l.fn.f (element_text l.self.0.now.element ++ brackets_text l._bracket) l.f

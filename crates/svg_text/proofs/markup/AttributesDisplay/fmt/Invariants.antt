use Rattle.std.proofs.Common.{take}
use Rattle.std.specs.Fmt.{HasWritten, IsPlainFormatter}
use Rattle.svg_text.specs.Elements.{attributes_text}
use Rattle.svg_text.proofs.markup.AttributesDisplay.fmt.Given as goal

-- the attributes so far are written
abbrev pub invariant-loop-attribute : goal.invariant-loop-attribute
invariant-loop-attribute g l =
    IsPlainFormatter l.fn.f → HasWritten g.W.Write.write_str_gives l.fn.f (attributes_text (take l.attribute-index l.attribute-items)) l.f

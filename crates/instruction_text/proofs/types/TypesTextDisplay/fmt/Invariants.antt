use Rattle.std.proofs.Common.{◌+◌, ◌∷◌, take}
use Rattle.std.specs.Fmt.{HasWritten, IsPlainFormatter}
use Rattle.instruction_text.specs.Texts.{list_text, type_text}
use Rattle.instruction_text.proofs.types.TypesTextDisplay.fmt.Given as goal

-- the first type and this number of types after it are written
abbrev pub invariant-loop-declared : goal.invariant-loop-declared
invariant-loop-declared g l =
    IsPlainFormatter l.fn.f → HasWritten g.W.Write.write_str_gives l.fn.f (40 ∷ list_text type_text (take (l.declared-index + 1) l.self.0.now)) l.f

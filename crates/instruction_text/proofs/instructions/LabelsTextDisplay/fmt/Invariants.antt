use Rattle.std.proofs.Common.{◌+◌, ◌∷◌, take}
use Rattle.std.specs.Fmt.{HasWritten, IsPlainFormatter}
use Rattle.instruction_text.specs.Characters.{characters_text}
use Rattle.instruction_text.specs.Texts.{list_text}
use Rattle.instruction_text.proofs.instructions.LabelsTextDisplay.fmt.Given as goal

-- the first label and this number of labels after it are written
abbrev pub invariant-loop-label : goal.invariant-loop-label
invariant-loop-label g l =
    IsPlainFormatter l.fn.f → HasWritten g.W.Write.write_str_gives l.fn.f (40 ∷ list_text characters_text (take (l.label-index + 1) l.self.0.now)) l.f

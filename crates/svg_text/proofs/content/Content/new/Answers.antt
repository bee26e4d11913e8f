use Rattle.std.proofs.Common.{sym, subst, true}
use Rattle.svg_text.specs.Contents.{IsFormed}
use Rattle.svg_text.proofs.WellFormed.{formed_nothing}
use Rattle.svg_text.proofs.content.Content.new.Goals as goal

pub invariant_of-result : goal.invariant_of-result
invariant_of-result c = subst (λ text. ∥ IsFormed true text ∥₁) (sym c.new.ensures.bytes) formed_nothing

use Rattle.std.proofs.Common.{◌∷◌, ◌++◌, [], ap, rules}
use Rattle.std.proofs.Output.{has_written_append, has_written_of_eq}
use Rattle.instruction_text.specs.Characters.{characters_text}
use Rattle.instruction_text.proofs.Lists.{listed_all, listed_first, listed_more}
use Rattle.instruction_text.proofs.instructions.LabelsTextDisplay.fmt.Goals as goal

pub loop-label-init : goal.loop-label-init
loop-label-init g c =
    λ plain. has_written_of_eq _ _ _ _ _ (ap (λ l. 40 ∷ l) (listed_first characters_text c.args.self.now.0.now c.in-Some.first.now c.in-Some.others.now c.in-Some.ensures.cases.0)) (search rules)

pub loop-label-preserved : goal.loop-label-preserved
loop-label-preserved g c =
    λ plain.
    has_written_of_eq _ _ _ _ _
    (ap (λ l. 40 ∷ l) (listed_more characters_text c.args.self.now.0.now c.in-Some.first.now c.in-Some.others.now c.in-Some.ensures.cases.0 c.loop-label.label-index c.label-item.result c.label-item.is c.loop-label-test.true))
    (has_written_append _ _ _ _ _ _ (c.loop-label.invariant plain) (search rules))

pub returns-clause-writes : goal.returns-clause-writes
returns-clause-writes g c =
    λ plain ok.
    has_written_of_eq _ _ _ _ _
    (ap (λ l. 40 ∷ (l ++ 41 ∷ [])) (listed_all characters_text c.args.self.now.0.now c.in-Some.first.now c.in-Some.others.now c.in-Some.ensures.cases.0 c.loop-label.label-index c.loop-label-test.false))
    (has_written_append _ _ _ _ _ _ (c.loop-label.invariant plain) (search rules))

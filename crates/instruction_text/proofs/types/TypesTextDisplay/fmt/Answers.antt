use Rattle.std.proofs.Common.{◌∷◌, ◌++◌, [], ap, rules}
use Rattle.std.proofs.Output.{has_written_append, has_written_of_eq}
use Rattle.instruction_text.specs.Texts.{type_text}
use Rattle.instruction_text.proofs.Lists.{listed_all, listed_first, listed_more}
use Rattle.instruction_text.proofs.types.TypesTextDisplay.fmt.Goals as goal

pub loop-declared-init : goal.loop-declared-init
loop-declared-init g c =
    λ plain. has_written_of_eq _ _ _ _ _ (ap (λ l. 40 ∷ l) (listed_first type_text c.args.self.now.0.now c.in-Some.first.now c.in-Some.others.now c.in-Some.ensures.cases.0)) (search rules)

pub loop-declared-preserved : goal.loop-declared-preserved
loop-declared-preserved g c =
    λ plain.
    has_written_of_eq _ _ _ _ _
    (ap (λ l. 40 ∷ l) (listed_more type_text c.args.self.now.0.now c.in-Some.first.now c.in-Some.others.now c.in-Some.ensures.cases.0 c.loop-declared.declared-index c.declared-item.result c.declared-item.is c.loop-declared-test.true))
    (has_written_append _ _ _ _ _ _ (c.loop-declared.invariant plain) (search rules))

pub returns-clause-writes : goal.returns-clause-writes
returns-clause-writes g c =
    λ plain ok.
    has_written_of_eq _ _ _ _ _
    (ap (λ l. 40 ∷ (l ++ 41 ∷ [])) (listed_all type_text c.args.self.now.0.now c.in-Some.first.now c.in-Some.others.now c.in-Some.ensures.cases.0 c.loop-declared.declared-index c.loop-declared-test.false))
    (has_written_append _ _ _ _ _ _ (c.loop-declared.invariant plain) (search rules))

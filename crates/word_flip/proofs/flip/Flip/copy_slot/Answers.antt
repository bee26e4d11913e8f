use Rattle.std.proofs.Common.{rules, Bool}
use Rattle.std.proofs.lemmas.List.{set-set}
use Rattle.word_flip.proofs.flip.Flip.copy_slot.Goals as goal

pub invariant_of-result : goal.invariant_of-result
invariant_of-result c = search (rules, set-set {A = Bool})

pub returns-then-again-value-clause-copier : goal.returns-then-again-value-clause-copier
returns-then-again-value-clause-copier c = search (rules, set-set {A = Bool})

use Rattle.std.proofs.Common.{◌≡◌, ◌<◌, ◌==◌, ℕ, zero, suc, false, sym, ◌∙◌, arith}
use Rattle.flow_rules.proofs.Classes.{objects_known}
use Rattle.flow_rules.proofs.type_tree.element_of_class.Goals as goal

above_one : (n : ℕ) → (n == 0) ≡ false → (n == 1) ≡ false → 1 < n
above_one zero a b = absurd (cc a)
above_one (suc zero) a b = absurd (cc b)
above_one (suc (suc n)) a b = omega arith

pub returns-else-eq-2-clause-named : goal.returns-else-eq-2-clause-named
returns-else-eq-2-clause-named c = λ tree known. rw c.number.ensures (objects_known tree c.args.class (above_one c.args.class (sym c.eq.ensures ∙ c.if-eq.false) (sym c.eq-else-eq.ensures ∙ c.if-eq-2.false)) known)

use Rattle.std.proofs.Common.{◌≡◌, ◌-◌, ◌++◌, ◌∷◌, [], ap, sym, ◌∙◌, arith, append_assoc}
use Rattle.inheritance.specs.Lines.{base_in, line_within}
use Rattle.inheritance.proofs.LineLaws.{line_step}
use Rattle.name_tables.specs.Members.{base_numbers}
use Rattle.name_tables.proofs.lookups.NameTables.line.Goals as goal

pub loop-left-preserved : goal.loop-left-preserved
loop-left-preserved c =
    let bases = base_numbers c.args.self.now.classes.tree.now in
    let left = c.loop-left.left in
    let class = c.in-Some.class in
    let numbers = c.loop-left.line.items in
    let step : line_within bases left c.loop-left.next ≡ class ∷ line_within bases (left - 1) (base_in bases class) = ap (line_within bases left) c.in-Some.is ∙ line_step bases left class (omega arith) in
    ap (λ z. z ++ line_within bases (left - 1) c.base-next.result) c.in_ok-push.ensures.items ∙ append_assoc numbers (class ∷ []) (line_within bases (left - 1) c.base-next.result) ∙
    ap (λ o. numbers ++ (class ∷ line_within bases (left - 1) o)) c.base-next.ensures ∙ ap (λ z. numbers ++ z) (sym step) ∙ c.loop-left.invariant

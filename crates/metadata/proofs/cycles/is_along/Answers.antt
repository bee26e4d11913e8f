use Rattle.std.proofs.Common.{◌≡◌, ◌-◌, ◌==◌, ◌||◌, ℕ, Bool, sym, ap, ◌∙◌, arith}
use Rattle.std.specs.List.{list_any}
use Rattle.inheritance.specs.Lines.{base_in, line_within}
use Rattle.inheritance.proofs.LineLaws.{line_of_none}
use Rattle.name_tables.specs.Members.{base_numbers}
use Rattle.metadata.proofs.MethodLaws.{any_next}
use Rattle.metadata.proofs.cycles.is_along.Goals as goal

pub loop-left-preserved : goal.loop-left-preserved
loop-left-preserved c =
    let bases = base_numbers c.args.names.now.classes.tree.now in
    let left = c.loop-left.left in
    let class = c.in-Some.class in
    let p : ℕ → Bool = λ n. n == c.args.required in
    ap (λ o. list_any p (line_within bases (left - 1) o)) c.base-next.ensures ∙
    sym (any_next p bases left c.loop-left.next class c.in-Some.is (omega arith) ∙ ap (λ b. b || list_any p (line_within bases (left - 1) (base_in bases class))) (sym c.eq.ensures ∙ c.if-eq.false)) ∙ c.loop-left.invariant

pub returns-in_default : goal.returns-in_default
returns-in_default c =
    let bases = base_numbers c.args.names.now.classes.tree.now in
    let p : ℕ → Bool = λ n. n == c.args.required in
    sym (ap (λ o. list_any p (line_within bases c.loop-left.left o)) c.in_default.is ∙ ap (list_any p) (line_of_none bases c.loop-left.left)) ∙ c.loop-left.invariant

pub returns-then-eq : goal.returns-then-eq
returns-then-eq c =
    let bases = base_numbers c.args.names.now.classes.tree.now in
    let left = c.loop-left.left in
    let class = c.in-Some.class in
    let p : ℕ → Bool = λ n. n == c.args.required in
    sym (any_next p bases left c.loop-left.next class c.in-Some.is (omega arith) ∙ ap (λ b. b || list_any p (line_within bases (left - 1) (base_in bases class))) (sym c.eq.ensures ∙ c.if-eq.true)) ∙ c.loop-left.invariant

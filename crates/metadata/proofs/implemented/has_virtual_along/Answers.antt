use Rattle.std.proofs.Common.{◌≡◌, ◌-◌, ◌||◌, ℕ, Bool, sym, ap, ◌∙◌, arith}
use Rattle.std.specs.List.{list_any}
use Rattle.inheritance.specs.Lines.{base_in, line_within}
use Rattle.inheritance.proofs.LineLaws.{line_of_none}
use Rattle.name_tables.specs.Keys.{method_of_key}
use Rattle.name_tables.specs.Members.{base_numbers}
use Rattle.resolved_code.specs.VirtualSlots.{is_virtual_found}
use Rattle.metadata.proofs.MethodLaws.{any_next}
use Rattle.metadata.proofs.implemented.has_virtual_along.Goals as goal

pub loop-left-preserved : goal.loop-left-preserved
loop-left-preserved c =
    let t = c.args.names.now.classes.tree.now in
    let bases = base_numbers t in
    let left = c.loop-left.left in
    let class = c.in-Some.class in
    let p : ℕ → Bool = is_virtual_found t (method_of_key c.args.key) in
    ap (λ o. list_any p (line_within bases (left - 1) o)) c.base-next.ensures ∙
    sym (any_next p bases left c.loop-left.next class c.in-Some.is (omega arith) ∙ ap (λ b. b || list_any p (line_within bases (left - 1) (base_in bases class))) (sym c.has_virtual.ensures ∙ c.if-has_virtual.false)) ∙ c.loop-left.invariant

pub returns-then-has_virtual : goal.returns-then-has_virtual
returns-then-has_virtual c =
    let t = c.args.names.now.classes.tree.now in
    let bases = base_numbers t in
    let left = c.loop-left.left in
    let class = c.in-Some.class in
    let p : ℕ → Bool = is_virtual_found t (method_of_key c.args.key) in
    sym (any_next p bases left c.loop-left.next class c.in-Some.is (omega arith) ∙ ap (λ b. b || list_any p (line_within bases (left - 1) (base_in bases class))) (sym c.has_virtual.ensures ∙ c.if-has_virtual.true)) ∙ c.loop-left.invariant

pub returns : goal.returns
returns c =
    let t = c.args.names.now.classes.tree.now in
    let p : ℕ → Bool = is_virtual_found t (method_of_key c.args.key) in
    let done : c.loop-left.left ≡ 0 = omega arith in
    sym (ap (λ n. list_any p (line_within (base_numbers t) n c.loop-left.next)) done) ∙ c.loop-left.invariant

pub returns-in_default : goal.returns-in_default
returns-in_default c =
    let t = c.args.names.now.classes.tree.now in
    let bases = base_numbers t in
    let p : ℕ → Bool = is_virtual_found t (method_of_key c.args.key) in
    sym (ap (λ o. list_any p (line_within bases c.loop-left.left o)) c.in_default.is ∙ ap (list_any p) (line_of_none bases c.loop-left.left)) ∙ c.loop-left.invariant

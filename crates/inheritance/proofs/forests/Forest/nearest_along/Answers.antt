use Rattle.std.proofs.Common.{◌≡◌, ◌==◌, ◌-◌, ◌∷◌, Some, None, map, sym, ap, ◌∙◌, arith}
use Rattle.std.specs.List.{position_from}
use Rattle.std.specs.Option.{option_map_or}
use Rattle.inheritance.specs.Lines.{base_in, line_within, index_in, nearest}
use Rattle.inheritance.proofs.LineLaws.{line_step}
use Rattle.inheritance.proofs.forests.Forest.nearest_along.Goals as goal

pub returns-in-Some-index_of : goal.returns-in-Some-index_of
returns-in-Some-index_of c =
    let f = c.args.self.now in
    let bases = f.bases.items in
    let left = c.loop-left.left in
    let class = c.in-Some.class in
    let at = index_in (map (λ v. v.items) f.declared.items) c.args.key in
    let step : line_within bases left c.loop-left.next ≡ class ∷ line_within bases (left - 1) (base_in bases class) = ap (line_within bases left) c.in-Some.is ∙ line_step bases left class (omega arith) in
    let here : at class ≡ Some c.in-Some-index_of.index = sym (c.index_of.ensures ∙ ap (position_from (λ k. c.args.key == k) 0) c.keys_of.ensures) ∙ c.in-Some-index_of.is in
    sym (ap (λ o. option_map_or (λ p. Some (class, p)) o (nearest at (line_within bases (left - 1) (base_in bases class)))) here) ∙ ap (nearest at) (sym step) ∙ c.loop-left.invariant

pub loop-left-preserved : goal.loop-left-preserved
loop-left-preserved c =
    let f = c.args.self.now in
    let bases = f.bases.items in
    let left = c.loop-left.left in
    let class = c.in-Some.class in
    let at = index_in (map (λ v. v.items) f.declared.items) c.args.key in
    let step : line_within bases left c.loop-left.next ≡ class ∷ line_within bases (left - 1) (base_in bases class) = ap (line_within bases left) c.in-Some.is ∙ line_step bases left class (omega arith) in
    let none : at class ≡ None = sym (c.index_of.ensures ∙ ap (position_from (λ k. c.args.key == k) 0) c.keys_of.ensures) ∙ c.in_default-index_of.is in
    ap (λ o. nearest at (line_within bases (left - 1) o)) c.base-next.ensures ∙
    sym (ap (λ o. option_map_or (λ p. Some (class, p)) o (nearest at (line_within bases (left - 1) (base_in bases class)))) none) ∙ ap (nearest at) (sym step) ∙ c.loop-left.invariant

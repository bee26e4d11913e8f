use Rattle.std.proofs.Common.{◌≡◌, map, arith, sym, ap, ◌∙◌, ◌++◌, ◌∷◌, [], take, ◌+◌}
use Rattle.std.proofs.lemmas.List.{map-append, append-nil}
use Rattle.std.specs.List.{filter_map}
use Rattle.cil_model.specs.Declarations.{as_method}
use Rattle.name_tables.proofs.Lists.{filter_map-take_more, at_end}
use Rattle.name_tables.proofs.classes.method_members.Goals as goal

pub loop-member-preserved-in_default : goal.loop-member-preserved-in_default
loop-member-preserved-in_default c =
    let step : filter_map as_method (take (c.loop-member.member-index + 1) c.as_slice-member-items.result.now) ≡ filter_map as_method (take c.loop-member.member-index c.as_slice-member-items.result.now) ++ filter_map as_method (c.member-item.result ∷ []) =
    filter_map-take_more as_method c.as_slice-member-items.result.now c.loop-member.member-index c.member-item.result (omega arith) c.member-item.is in
    let none : filter_map as_method (c.member-item.result ∷ []) ≡ [] = ap (λ y. filter_map as_method (y ∷ [])) c.in_default.is in
    c.loop-member.invariant ∙ sym (step ∙ ap (λ z. filter_map as_method (take c.loop-member.member-index c.as_slice-member-items.result.now) ++ z) none ∙ append-nil _)

pub loop-member-preserved : goal.loop-member-preserved
loop-member-preserved c =
    let step : filter_map as_method (take (c.loop-member.member-index + 1) c.as_slice-member-items.result.now) ≡ filter_map as_method (take c.loop-member.member-index c.as_slice-member-items.result.now) ++ filter_map as_method (c.member-item.result ∷ []) =
    filter_map-take_more as_method c.as_slice-member-items.result.now c.loop-member.member-index c.member-item.result (omega arith) c.member-item.is in
    let one : filter_map as_method (c.member-item.result ∷ []) ≡ c.in-Method.method ∷ [] = ap (λ y. filter_map as_method (y ∷ [])) c.in-Method.is in
    ap (map (λ f. f.now)) c.in_ok-push.ensures.items ∙ map-append (λ f. f.now) c.loop-member.methods.items _ ∙ ap (λ z. z ++ c.in-Method.method ∷ []) c.loop-member.invariant ∙
    sym (step ∙ ap (λ z. filter_map as_method (take c.loop-member.member-index c.as_slice-member-items.result.now) ++ z) one)

pub loop-member-init : goal.loop-member-init
loop-member-init c = ap (map (λ f. f.now)) c.new-methods.ensures.items

pub returns : goal.returns
returns c = at_end (filter_map as_method) c.as_slice-member-items.result.now c.loop-member.member-index c.loop-member-test.false c.loop-member.invariant ∙ ap (filter_map as_method) c.as_slice-member-items.ensures

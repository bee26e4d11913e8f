use Rattle.std.proofs.Common.{◌++◌, ◌∷◌, [], map, take, sym, ap, ◌∙◌}
use Rattle.std.proofs.Math.Seq.{take_all}
use Rattle.std.proofs.lemmas.List.{take_more, map-append}
use Rattle.cil_model.specs.ValueKinds.{kind_of_type}
use Rattle.resolved_code.specs.ById.{type_named, types_named}
use Rattle.loaded_program.proofs.methods.local_kinds.Goals as goal

pub loop-resolved-init : goal.loop-resolved-init
loop-resolved-init c = λ tree. c.in_ok-kinds.ensures.items

pub loop-resolved-preserved : goal.loop-resolved-preserved
loop-resolved-preserved c = λ tree.
    let types = c.locals_of-types.result.now in
    let index = c.loop-resolved.resolved-index in
    let before = take index types in
    c.in_ok-push.ensures.items ∙ ap (λ kinds. kinds ++ c.kind.result ∷ []) (c.loop-resolved.invariant tree) ∙ ap (λ kind. map kind_of_type (types_named tree before) ++ kind ∷ []) (c.kind.ensures.named tree) ∙
    sym (ap (λ ts. map kind_of_type (types_named tree ts)) (take_more types index _ c.loop-resolved-test.true) ∙ ap (map kind_of_type) (map-append (type_named tree) before (_ ∷ [])) ∙ map-append kind_of_type (types_named tree before) (_ ∷ []))

pub returns : goal.returns
returns c = λ tree.
    c.loop-resolved.invariant tree ∙ ap (λ ts. map kind_of_type (types_named tree ts)) (take_all c.loop-resolved.resolved-index c.locals_of-types.result.now c.loop-resolved-test.false ∙ c.locals_of-types.ensures)

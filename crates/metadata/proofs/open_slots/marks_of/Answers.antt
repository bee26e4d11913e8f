use Rattle.std.proofs.Common.{Bool, List, [], ◌∷◌, ◌++◌, map, take, sym, ap, ◌∙◌}
use Rattle.std.proofs.lemmas.List.{map-append}
use Rattle.cil_model.specs.declared.trees.Method.{Method}
use Rattle.cil_model.specs.Chains.{is_abstract_method}
use Rattle.name_tables.proofs.Lists.{map-take_more}
use Rattle.metadata.proofs.open_slots.marks_of.Goals as goal

pub loop-method-preserved : goal.loop-method-preserved
loop-method-preserved c =
    let marks : List Method → List Bool = map (λ (m : Method). is_abstract_method m.kind) in
    let before : List Method = map (λ m. m.now) (take c.loop-method.method-index c.args.methods.now) in
    c.in_ok-push.ensures.items ∙ ap (λ bs. bs ++ c.is_abstract_method.result ∷ []) c.loop-method.invariant ∙ ap (λ b. marks before ++ b ∷ []) c.is_abstract_method.ensures ∙
    sym (ap marks (map-take_more (λ m. m.now) c.args.methods.now c.loop-method.method-index c.method-item.result c.loop-method-test.true c.method-item.is) ∙ map-append (λ (m : Method). is_abstract_method m.kind) before (c.method-item.result.now ∷ []))

use Rattle.std.proofs.Common.{[], ◌∷◌, ◌++◌, map, take, sym, ap, ◌∙◌, arith}
use Rattle.std.proofs.lemmas.List.{take_more, take_all, map-append}
use Rattle.cil_model.specs.Same.{same_class}
use Rattle.cil_model.specs.Legality.{has_repeat}
use Rattle.name_tables.specs.Keys.{class_of_key}
use Rattle.resolved_code.proofs.ListLaws.Repeats.{has_repeat-map, if_ok_then}
use Rattle.metadata.proofs.duplicates.repeated_name.Goals as goal

pub loop-item-preserved : goal.loop-item-preserved
loop-item-preserved g c =
    let items = c.args.items.now in
    let i = c.loop-item.item-index in
    let item = c.item-item.result in
    let name = g.T.Named.name_of in
    ap (map class_of_key) c.in_ok-push.ensures.items ∙ map-append class_of_key c.loop-item.keys.items _ ∙ ap (λ xs. xs ++ class_of_key c.key.result ∷ []) c.loop-item.invariant ∙ ap (λ x. map name (take i items) ++ x ∷ []) c.key.ensures ∙
    sym (ap (map name) (take_more items i item c.loop-item-test.true ∙ ap (λ x. take i items ++ x ∷ []) (sym c.item-item.is)) ∙ map-append name (take i items) (item ∷ []))

pub returns : goal.returns
returns g c =
    let items = c.args.items.now in
    let name = g.T.Named.name_of in
    if_ok_then c.repeated_key.result _ _ (λ r e. e ∙ sym (has_repeat-map class_of_key same_class c.loop-item.keys.items) ∙
    ap (has_repeat same_class) (c.loop-item.invariant ∙ ap (map name) (take_all c.loop-item.item-index items (omega arith))) ∙ has_repeat-map name same_class items) c.repeated_key.ensures

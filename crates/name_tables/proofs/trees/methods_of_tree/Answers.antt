use Rattle.std.proofs.Common.{◌++◌, sym, ap, ◌∙◌, map, flat_map, take}
use Rattle.std.proofs.lemmas.List.{map-append}
use Rattle.cil_model.specs.Declarations.{method_members}
use Rattle.name_tables.proofs.Lists.{at_end, flat_map-take_more}
use Rattle.name_tables.proofs.trees.methods_of_tree.Goals as goal

pub loop-class-init : goal.loop-class-init
loop-class-init c = ap (map (λ m. m.now)) c.new-all.ensures.items

pub loop-class-preserved : goal.loop-class-preserved
loop-class-preserved c =
    let classes = c.as_slice-class-items.result.now in
    let before = flat_map method_members (take c.loop-class.class-index classes) in
    let own = c.in_ok-methods.methods.items in
    ap (map (λ m. m.now)) c.in_ok-append.ensures.items ∙ map-append (λ m. m.now) c.loop-class.all.items own ∙ ap (λ ms. ms ++ map (λ m. m.now) own) c.loop-class.invariant ∙ ap (λ ms. before ++ ms) c.in_ok-methods.ensures ∙
    sym (flat_map-take_more method_members classes c.loop-class.class-index c.class-item.result c.loop-class-test.true c.class-item.is)

pub returns : goal.returns
returns c =
    at_end (flat_map method_members) c.as_slice-class-items.result.now c.loop-class.class-index c.loop-class-test.false c.loop-class.invariant ∙
    ap (flat_map method_members) c.as_slice-class-items.ensures

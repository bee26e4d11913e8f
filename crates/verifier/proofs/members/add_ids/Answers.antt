use Rattle.std.proofs.Common.{◌++◌, List, map, Some, sym, ap, ◌∙◌}
use Rattle.std.proofs.lemmas.List.{append-nil, drop_all}
use Rattle.cil_model.specs.declared.trees.Method.{Method}
use Rattle.cil_model.specs.Declarations.{source_name}
use Rattle.verifier.specs.Members.{methods_at}
use Rattle.verifier.proofs.MethodIds.{number_added}
use Rattle.verifier.proofs.members.add_ids.Goals as goal

pub loop-index-init : goal.loop-index-init
loop-index-init c tree class here all = ap (λ (ms : List Method). methods_at tree c.args.members.now.items ++ map Some (map (λ (m : Method). (source_name class, m)) ms)) all

pub loop-index-preserved : goal.loop-index-preserved
loop-index-preserved c tree class here all =
    rw c.in_ok-push.ensures.items (number_added tree class c.args.class c.loop-index.index c.loop-index.members.items (λ m. m.now) c.args.methods.now c.index-methods-index.result _ here all c.loop-index-test.true c.index-methods-index.is (c.loop-index.invariant tree class here all))

pub returns : goal.returns
returns c tree class here all =
    let found = methods_at tree c.loop-index.members.items in
    sym (append-nil found) ∙
    ap (λ methods. found ++ map Some (map (λ (m : Method). (source_name class, m)) (map (λ m. m.now) methods))) (sym (drop_all c.loop-index.index c.args.methods.now c.loop-index-test.false)) ∙
    c.loop-index.invariant tree class here all

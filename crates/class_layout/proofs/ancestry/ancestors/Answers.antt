use Rattle.std.proofs.Common.{◌≡◌, ◌++◌, ◌∷◌, [], map, get_or, ap, ◌∙◌, arith, append_assoc}
use Rattle.std.specs.Prelude.{flat_map}
use Rattle.std.proofs.lemmas.List.{take_all, get_or_default}
use Rattle.class_layout.specs.ByClass.{with_interfaces}
use Rattle.class_layout.proofs.Indices.{flat_takes}
use Rattle.class_layout.proofs.ancestry.ancestors.Goals as goal

pub loop-class-preserved : goal.loop-class-preserved
loop-class-preserved c =
    let x = c.class-item.result in
    let same : x ≡ get_or c.args.chain.now c.loop-class.class-index 0 = c.class-item.is ∙ get_or_default c.args.chain.now c.loop-class.class-index x 0 c.loop-class-test.true in
    let table = map (λ r. r.interfaces) c.args.classes.now.all.now in
    let after : c.extend_from_slice.new.self.items ≡ c.loop-class.ancestors.items ++ with_interfaces table x =
    c.in_ok-extend_from_slice.ensures.items ∙ ap (λ z. z ++ c.interfaces.result.now) c.in_ok-push.ensures.items ∙ append_assoc c.loop-class.ancestors.items (x ∷ []) c.interfaces.result.now ∙ ap (λ z. c.loop-class.ancestors.items ++ (x ∷ z)) c.interfaces.ensures in
    flat_takes (with_interfaces table) c.args.chain.now c.loop-class.class-index 0 c.loop-class.ancestors.items c.extend_from_slice.new.self.items (omega arith) c.loop-class.invariant (after ∙ ap (λ n. c.loop-class.ancestors.items ++ with_interfaces table n) same)

pub returns : goal.returns
returns c = c.loop-class.invariant ∙ ap (flat_map (with_interfaces (map (λ r. r.interfaces) c.args.classes.now.all.now))) (take_all c.loop-class.class-index c.args.chain.now c.loop-class-test.false)

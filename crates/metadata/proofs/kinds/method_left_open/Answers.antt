use Rattle.std.proofs.Common.{Bool, refl, sym, ◌∙◌, arith, Bor}
use Rattle.std.specs.List.{list_any}
use Rattle.cil_model.specs.declared.trees.Method.{Method}
use Rattle.resolved_code.specs.VirtualSlots.{method_slot_is_abstract}
use Rattle.metadata.proofs.WalkLaws.{any_found_in, any_after_in, none_left_in}
use Rattle.metadata.proofs.kinds.method_left_open.Goals as goal

pub loop-index-init : goal.loop-index-init
loop-index-init c = refl

pub loop-index-preserved : goal.loop-index-preserved
loop-index-preserved c =
    let t = c.args.names.now.classes.tree.now in
    let p : Method → Bool = method_slot_is_abstract t c.args.chain.now c.args.introduced.now in
    any_after_in (λ (m : Bor Method). m.now) p c.args.methods.now c.loop-index.index c.index-methods-index.result (omega arith) c.index-methods-index.is (sym c.method_slot_is_abstract.ensures ∙ c.if-method_slot_is_abstract.false) ∙ c.loop-index.invariant

pub returns-then-method_slot_is_abstract : goal.returns-then-method_slot_is_abstract
returns-then-method_slot_is_abstract c =
    let t = c.args.names.now.classes.tree.now in
    let p : Method → Bool = method_slot_is_abstract t c.args.chain.now c.args.introduced.now in
    sym (any_found_in (λ (m : Bor Method). m.now) p c.args.methods.now c.loop-index.index c.index-methods-index.result (omega arith) c.index-methods-index.is (sym c.method_slot_is_abstract.ensures ∙ c.if-method_slot_is_abstract.true)) ∙ c.loop-index.invariant

pub returns : goal.returns
returns c =
    let t = c.args.names.now.classes.tree.now in
    let p : Method → Bool = method_slot_is_abstract t c.args.chain.now c.args.introduced.now in
    sym (none_left_in (λ (m : Bor Method). m.now) (list_any p) c.args.methods.now c.loop-index.index (omega arith)) ∙ c.loop-index.invariant

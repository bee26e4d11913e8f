use Rattle.std.proofs.Common.{Bool, is_some, refl, sym, ap, ◌∙◌, arith, Bor}
use Rattle.std.specs.List.{list_any}
use Rattle.cil_model.specs.declared.trees.Method.{Method}
use Rattle.cil_model.specs.Declarations.{source_name}
use Rattle.cil_model.specs.Legality.{overrides_no_virtual}
use Rattle.metadata.proofs.WalkLaws.{any_found_in, any_after_in, none_left_in}
use Rattle.metadata.proofs.kinds.over_nonvirtual.Goals as goal

pub loop-method-init : goal.loop-method-init
loop-method-init c = refl

pub loop-method-preserved : goal.loop-method-preserved
loop-method-preserved c =
    let t = c.args.tables.now.names.now.classes.tree.now in
    let p : Method → Bool = overrides_no_virtual t (source_name c.args.class.now) in
    any_after_in (λ (m : Bor Method). m.now) p c.args.methods.now c.loop-method.method c.index-methods-method.result (omega arith) c.index-methods-method.is (sym c.nonvirtual_below.ensures ∙ ap is_some c.in_default.is) ∙ c.loop-method.invariant

pub returns-in-Some : goal.returns-in-Some
returns-in-Some c =
    let t = c.args.tables.now.names.now.classes.tree.now in
    let p : Method → Bool = overrides_no_virtual t (source_name c.args.class.now) in
    sym (any_found_in (λ (m : Bor Method). m.now) p c.args.methods.now c.loop-method.method c.index-methods-method.result (omega arith) c.index-methods-method.is (sym c.nonvirtual_below.ensures ∙ ap is_some c.in-Some.is)) ∙ c.loop-method.invariant

pub returns : goal.returns
returns c =
    let t = c.args.tables.now.names.now.classes.tree.now in
    let p : Method → Bool = overrides_no_virtual t (source_name c.args.class.now) in
    sym (none_left_in (λ (m : Bor Method). m.now) (list_any p) c.args.methods.now c.loop-method.method (omega arith)) ∙ c.loop-method.invariant

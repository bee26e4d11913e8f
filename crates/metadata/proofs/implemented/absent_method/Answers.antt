use Rattle.std.proofs.Common.{Bool, Bor, refl, sym, ap, ◌∙◌, arith}
use Rattle.std.specs.List.{list_any, list_all}
use Rattle.cil_model.specs.declared.trees.Method.{Method}
use Rattle.name_tables.specs.Methods.{line_of}
use Rattle.name_tables.specs.Sameness.{MethodIdentity, identity_of}
use Rattle.resolved_code.specs.VirtualSlots.{is_virtual_found}
use Rattle.metadata.proofs.WalkLaws.{all_fail_in, all_after_in, none_left_in}
use Rattle.metadata.proofs.implemented.absent_method.Goals as goal

pub loop-index-init : goal.loop-index-init
loop-index-init c = refl

pub loop-index-preserved : goal.loop-index-preserved
loop-index-preserved c =
    let t = c.args.methods.now.names.now.classes.tree.now in
    let has : MethodIdentity → Bool = λ k. list_any (is_virtual_found t k) (line_of t c.args.class.now) in
    all_after_in (λ (m : Bor Method). m.now) (λ m. has (identity_of m)) c.args.required.now c.loop-index.index c.index-required-index.result (omega arith) c.index-required-index.is
    (sym (c.implements_method.ensures ∙ ap has c.new-key.ensures) ∙ c.if-not-implements_method.false) ∙ c.loop-index.invariant

pub returns-then-not-implements_method : goal.returns-then-not-implements_method
returns-then-not-implements_method c =
    let t = c.args.methods.now.names.now.classes.tree.now in
    let has : MethodIdentity → Bool = λ k. list_any (is_virtual_found t k) (line_of t c.args.class.now) in
    sym (all_fail_in (λ (m : Bor Method). m.now) (λ m. has (identity_of m)) c.args.required.now c.loop-index.index c.index-required-index.result (omega arith) c.index-required-index.is
    (sym (c.implements_method.ensures ∙ ap has c.new-key.ensures) ∙ c.if-not-implements_method.true)) ∙ c.loop-index.invariant

pub returns : goal.returns
returns c =
    let t = c.args.methods.now.names.now.classes.tree.now in
    let has : MethodIdentity → Bool = λ k. list_any (is_virtual_found t k) (line_of t c.args.class.now) in
    sym (none_left_in (λ (m : Bor Method). m.now) (list_all (λ m. has (identity_of m))) c.args.required.now c.loop-index.index (omega arith)) ∙ c.loop-index.invariant

use Rattle.std.proofs.Common.{is_none, refl, sym, ap, ◌∙◌, arith}
use Rattle.std.specs.List.{list_any, list_all}
use Rattle.std.proofs.lemmas.List.{at_drop_all}
use Rattle.cil_model.specs.declared.types.ClassName.{ClassName}
use Rattle.cil_model.specs.declared.trees.Method.{Method}
use Rattle.cil_model.specs.Chains.{methods_declared}
use Rattle.name_tables.specs.Methods.{line_of}
use Rattle.name_tables.specs.Sameness.{identity_of}
use Rattle.resolved_code.specs.VirtualSlots.{is_virtual_found}
use Rattle.resolved_code.proofs.ListLaws.Tests.{all_after}
use Rattle.metadata.proofs.WalkLaws.{all_fail}
use Rattle.metadata.proofs.implemented.absent_in_list.Goals as goal

pub loop-interface-preserved : goal.loop-interface-preserved
loop-interface-preserved c =
    let t = c.args.methods.now.names.now.classes.tree.now in
    all_after (λ (i : ClassName). list_all (λ (m : Method). list_any (is_virtual_found t (identity_of m)) (line_of t c.args.class.now)) (methods_declared t i)) c.args.interfaces.now c.loop-interface.interface c.index-interfaces-interface.result (omega arith) c.index-interfaces-interface.is
    (sym c.absent_in.ensures ∙ ap is_none c.in_default.is) ∙ c.loop-interface.invariant

pub loop-interface-init : goal.loop-interface-init
loop-interface-init c = refl

pub returns-in-Some : goal.returns-in-Some
returns-in-Some c =
    let t = c.args.methods.now.names.now.classes.tree.now in
    sym (all_fail (λ (i : ClassName). list_all (λ (m : Method). list_any (is_virtual_found t (identity_of m)) (line_of t c.args.class.now)) (methods_declared t i)) c.args.interfaces.now c.loop-interface.interface c.index-interfaces-interface.result (omega arith) c.index-interfaces-interface.is
    (sym c.absent_in.ensures ∙ ap is_none c.in-Some.is)) ∙ c.loop-interface.invariant

pub returns : goal.returns
returns c =
    let t = c.args.methods.now.names.now.classes.tree.now in
    sym (at_drop_all (list_all (λ (i : ClassName). list_all (λ (m : Method). list_any (is_virtual_found t (identity_of m)) (line_of t c.args.class.now)) (methods_declared t i))) c.args.interfaces.now c.loop-interface.interface (omega arith)) ∙ c.loop-interface.invariant

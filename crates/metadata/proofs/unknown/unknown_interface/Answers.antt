use Rattle.std.proofs.Common.{Bool, is_none, refl, sym, ap, ◌∙◌, arith, ◌&&◌}
use Rattle.std.specs.List.{list_all}
use Rattle.std.proofs.lemmas.List.{at_drop_all}
use Rattle.cil_model.specs.declared.types.ClassName.{ClassName}
use Rattle.cil_model.specs.Legality.{is_resolved, is_source_interface}
use Rattle.resolved_code.proofs.ListLaws.Tests.{all_after}
use Rattle.metadata.proofs.WalkLaws.{all_fail}
use Rattle.metadata.proofs.unknown.unknown_interface.Goals as goal

pub loop-entry-init : goal.loop-entry-init
loop-entry-init c = refl

pub loop-entry-preserved : goal.loop-entry-preserved
loop-entry-preserved c =
    let t = c.args.names.now.classes.tree.now in
    let p : ClassName → Bool = λ i. is_resolved t i && is_source_interface t i in
    all_after p c.args.interfaces.now c.loop-entry.entry c.index-interfaces-entry.result (omega arith) c.index-interfaces-entry.is (sym c.interface_fault.ensures ∙ ap is_none c.in_default.is) ∙ c.loop-entry.invariant

pub returns-in-Some : goal.returns-in-Some
returns-in-Some c =
    let t = c.args.names.now.classes.tree.now in
    let p : ClassName → Bool = λ i. is_resolved t i && is_source_interface t i in
    sym (all_fail p c.args.interfaces.now c.loop-entry.entry c.index-interfaces-entry.result (omega arith) c.index-interfaces-entry.is (sym c.interface_fault.ensures ∙ ap is_none c.in-Some.is)) ∙ c.loop-entry.invariant

pub returns : goal.returns
returns c =
    let t = c.args.names.now.classes.tree.now in
    let p : ClassName → Bool = λ i. is_resolved t i && is_source_interface t i in
    sym (at_drop_all (list_all p) c.args.interfaces.now c.loop-entry.entry (omega arith)) ∙ c.loop-entry.invariant

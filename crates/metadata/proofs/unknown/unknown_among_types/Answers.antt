use Rattle.std.proofs.Common.{is_none, refl, sym, ap, ◌∙◌, arith}
use Rattle.std.specs.List.{list_all}
use Rattle.metadata.specs.declared.mentions.SitedType.{SitedType}
use Rattle.metadata.proofs.UnknownLaws.{is_type}
use Rattle.metadata.proofs.WalkLaws.{all_fail_in, all_after_in, none_left_in}
use Rattle.metadata.proofs.unknown.unknown_among_types.Goals as goal

pub loop-sited-init : goal.loop-sited-init
loop-sited-init c = refl

pub loop-sited-preserved : goal.loop-sited-preserved
loop-sited-preserved c =
    all_after_in (λ (x : SitedType). x.declared.now) (is_type c.args.names.now.classes.tree.now) c.args.types.now c.loop-sited.sited-index c.sited-item.result (omega arith) c.sited-item.is
    (sym c.type_fault.ensures ∙ ap is_none c.in_default.is) ∙ c.loop-sited.invariant

pub returns-in-Some : goal.returns-in-Some
returns-in-Some c =
    sym (all_fail_in (λ (x : SitedType). x.declared.now) (is_type c.args.names.now.classes.tree.now) c.args.types.now c.loop-sited.sited-index c.sited-item.result (omega arith) c.sited-item.is
    (sym c.type_fault.ensures ∙ ap is_none c.in-Some.is)) ∙ c.loop-sited.invariant

pub returns : goal.returns
returns c =
    sym (none_left_in (λ (x : SitedType). x.declared.now) (list_all (is_type c.args.names.now.classes.tree.now)) c.args.types.now c.loop-sited.sited-index (omega arith)) ∙ c.loop-sited.invariant

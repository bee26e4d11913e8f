use Rattle.std.proofs.Common.{Some, sym, ap, ◌∙◌, arith}
use Rattle.resolved_code.proofs.ListLaws.FoundItems.{all_some_more, all_some_whole}
use Rattle.resolved_code.proofs.Resolution.Outcomes.{fails_at, passed_on}
use Rattle.resolved_code.proofs.items.resolve_all.Goals as goal

pub returns-in_err-resolve : goal.returns-in_err-resolve
returns-in_err-resolve g c =
    passed_on c.from_residual.result _ _ c.from_residual.ensures.1 (fails_at (g.R.Resolve.rule c.args.resolver.now) c.args.items.now c.loop-item.item-index c.item-item.result c.in_err-resolve.field-0.0 (omega arith) c.item-item.is c.in_err-resolve.ensures)

pub loop-item-preserved : goal.loop-item-preserved
loop-item-preserved g c =
    all_some_more (g.R.Resolve.rule c.args.resolver.now) c.args.items.now c.loop-item.item-index c.item-item.result c.loop-item.resolved.items c.in_ok-resolve.field-0 (omega arith) c.item-item.is c.loop-item.invariant c.in_ok-resolve.ensures ∙ ap Some (sym c.in_ok-push.ensures.items)

pub returns : goal.returns
returns g c = all_some_whole (g.R.Resolve.rule c.args.resolver.now) c.args.items.now c.loop-item.item-index c.loop-item.resolved.items c.new.result (omega arith) c.loop-item.invariant c.new.ensures

use Rattle.std.proofs.Common.{◌+◌, ◌∷◌, [], length, sym, ap, ◌∙◌, subst, arith}
use Rattle.std.proofs.lemmas.List.{length-append}
use Rattle.inheritance.specs.Query.{IsLatest, IsReach}
use Rattle.inheritance.proofs.QueryLaws.{latest_at_first, latest_as_before, latest_here, reach_more}
use Rattle.inheritance.proofs.query.reach_of.Goals as goal
use Rattle.inheritance.proofs.query.reach_of.Goals.{then-latest-ends, else-latest-ends}

pub loop-time-init : goal.loop-time-init
loop-time-init c = record {
  reach = λ t h. absurd (omega (arith, h, ap length c.new-reach.ensures.items));
  width = ap length c.new-reach.ensures.items;
  latest = latest_at_first c.args.ends.now;
}

pub loop-time-preserved : goal.loop-time-preserved
loop-time-preserved c =
    let ends = c.args.ends.now in
    let time = c.loop-time.time in
    let inv = c.loop-time.invariant in
    let latest : IsLatest ends (time + 1) c.if-latest-ends.latest = elim c.if-latest-ends.branch [
      | then-latest-ends w ↦ subst (IsLatest ends (time + 1)) (sym w.latest-is) (latest_here ends time c.loop-time.latest inv.latest w.if-latest-ends.true)
      | else-latest-ends w ↦ subst (IsLatest ends (time + 1)) (sym w.latest-is) (latest_as_before ends time c.loop-time.latest inv.latest w.if-latest-ends.false)
    ] in
    record {
      reach = subst (IsReach ends) (sym c.in_ok-push.ensures.items) (reach_more ends c.loop-time.reach.items c.if-latest-ends.latest inv.reach (subst (λ n. IsLatest ends (n + 1) c.if-latest-ends.latest) (sym inv.width) latest));
      width = ap length c.in_ok-push.ensures.items ∙ length-append c.loop-time.reach.items (c.if-latest-ends.latest ∷ []) ∙ ap (λ n. n + 1) inv.width;
      latest = latest;
    }

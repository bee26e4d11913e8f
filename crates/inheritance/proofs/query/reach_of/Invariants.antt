use Rattle.std.proofs.Common.{◌≡◌, length}
use Rattle.inheritance.specs.Query.{IsLatest, IsReach}
use Rattle.inheritance.proofs.query.reach_of.Given as goal

abbrev pub invariant-loop-time : goal.invariant-loop-time
invariant-loop-time l = record {
  reach : IsReach l.ends l.reach.items;
  width : length l.reach.items ≡ l.time;
  latest : IsLatest l.ends l.time l.latest;
}

use Rattle.std.proofs.Common.{pos}
use Rattle.cil_model.specs.declared.trees.Code.{Code}
use Rattle.verifier.specs.Answers.{AreOf, IsOnTheWay, IsWhole, work_left}
use Rattle.verifier.proofs.search.least_typing.Given as goal

abbrev pub invariant-loop-pc : goal.invariant-loop-pc
invariant-loop-pc l = record {
  whole : IsWhole l.search;
  found : (code : Code) → AreOf l.method l.operations (pos l.most) code → IsOnTheWay l.method code l.search.rows.items l.search.is_pending.items;
}

abbrev pub decreases-loop-pc : goal.decreases-loop-pc
decreases-loop-pc l = work_left l.method.types.now (pos l.most) l.search

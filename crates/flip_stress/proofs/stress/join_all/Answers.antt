use Rattle.std.proofs.Common.{ap, ◌∙◌, sym, sum_by, arith}
use Rattle.std.proofs.lemmas.List.Sums.{sum_by_push}
use Rattle.std.specs.Vec.Iter.{into_iter_items}
use Rattle.flip_stress.specs.Promises.{promised_by}
use Rattle.flip_stress.proofs.Taken.{all_taken, one_taken, sum_taken}
use Rattle.flip_stress.proofs.stress.join_all.Goals as goal

pub overflow_add-kept : goal.overflow_add-kept
overflow_add-kept g c =
    let sums = sum_taken promised_by c.args.threads.items c.loop-thread.yielded c.in-Some.thread _ _ c.loop-thread.invariant.rest c.in-Some.ensures.steps.0 in
    omega arith

pub loop-thread-preserved-then-reclaims : goal.loop-thread-preserved-then-reclaims
loop-thread-preserved-then-reclaims g c = record {
  kept = rw (sum_by_push promised_by c.loop-thread.yielded c.in-Some.thread, c.loop-thread.invariant.kept, c.join-report.ensures);
  rest = one_taken _ _ _ _ _ c.loop-thread.invariant.rest c.in-Some.ensures.steps.0;
}

pub loop-thread-preserved : goal.loop-thread-preserved
loop-thread-preserved g c = record {
  kept = rw (sum_by_push promised_by c.loop-thread.yielded c.in-Some.thread, c.loop-thread.invariant.kept, c.join-report.ensures);
  rest = one_taken _ _ _ _ _ c.loop-thread.invariant.rest c.in-Some.ensures.steps.0;
}

pub returns : goal.returns
returns g c = c.loop-thread.invariant.kept ∙ ap (sum_by promised_by) (sym (all_taken c.args.threads.items c.loop-thread.yielded (into_iter_items c.loop-thread.thread-iterator) c.loop-thread.invariant.rest (omega (arith, c.in-None.ensures.steps.0))))

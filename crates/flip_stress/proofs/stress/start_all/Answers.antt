use Rattle.std.proofs.Common.{◌+◌, ◌*◌, ◌∙◌, List, ap, sym, sum_by, rules, arith}
use Rattle.std.proofs.lemmas.List.{length_push}
use Rattle.std.proofs.lemmas.Result.{IfOk-from_err}
use Rattle.std.specs.Arc.{arc_value}
use Rattle.std.specs.Vec.Iter.{into_iter_items}
use Rattle.word_flip.specs.Tokens.{IsWriterOf, WriterValue}
use Rattle.flip_stress.specs.Stress.{own_count}
use Rattle.flip_stress.proofs.Owners.{promised_more}
use Rattle.flip_stress.proofs.Taken.{all_taken, one_taken, within_taken}
use Rattle.flip_stress.proofs.stress.start_all.Goals as goal

pub returns-in_err-threads : goal.returns-in_err-threads
returns-in_err-threads g c = IfOk-from_err c.from_residual.result _ c.from_residual.ensures.0

pub start_seat-requires : goal.start_seat-requires
start_seat-requires g c =
    (c.requires.0, within_taken (IsWriterOf (arc_value c.args.flip.now)) c.args.writers.items c.loop-writer.yielded c.in-Some.writer _ _ c.loop-writer.invariant.rest c.in-Some.ensures.steps.0 c.requires.1)

pub loop-writer-preserved : goal.loop-writer-preserved
loop-writer-preserved g c = record {
  promised = rw c.push_reserved.ensures.items (promised_more c.args.sizes.rounds c.loop-writer.threads.items c.in-Ok.thread c.loop-writer.yielded c.in-Some.writer c.loop-writer.invariant.promised (search rules));
  rest = one_taken _ _ _ _ _ c.loop-writer.invariant.rest c.in-Some.ensures.steps.0;
  count = rw (length_push c.loop-writer.yielded c.in-Some.writer) (c.push_reserved.ensures.len ∙ ap (λ n. n + 1) c.loop-writer.invariant.count);
  room = rw c.push_reserved.ensures.capacity c.loop-writer.invariant.room;
}

pub returns : goal.returns
returns g c = c.loop-writer.invariant.promised ∙ ap (λ (writers : List WriterValue). c.args.sizes.rounds * sum_by own_count writers)
    (sym (all_taken c.args.writers.items c.loop-writer.yielded (into_iter_items c.loop-writer.writer-iterator) c.loop-writer.invariant.rest (omega (arith, c.in-None.ensures.steps.0))))

use Rattle.schedule_text.proofs.ReadingLemmas.{fault_of, if_err, on_ok, uncapped_added}
use Rattle.schedule_text.proofs.reading.append_word.Goals as goal

pub returns-clause-ok : goal.returns-clause-ok
returns-clause-ok c =
    let written = c.in-Some.ensures in
    on_ok c.append.result (λ added. (written.0, written.1, uncapped_added c.in-Some.item written.0 _ _ written.2 added)) c.append.ensures.ok

pub returns-clause-err : goal.returns-clause-err
returns-clause-err c =
    let written = c.in-Some.ensures in
    if_err c.append.result (λ error. fault_of c.args.events c.args.word.now c.in-Some.item written.0 error written.1 written.2) c.append.ensures.err

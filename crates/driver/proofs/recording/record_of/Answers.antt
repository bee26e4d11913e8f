use Rattle.std.proofs.Common.{◌∙◌, ap₂, subst, sym, List, ℕ}
use Rattle.driver.proofs.Names.{run_file, events_of, IsRecordOf}
use Rattle.driver.proofs.recording.record_of.Goals as goal

pub returns-in-Ok : goal.returns-in-Ok
returns-in-Ok c =
    let events = events_of c.args.outcome.now.history.entries in
    let says = c.of-file.ensures.says ∙ ap₂ (λ (workers : ℕ) (printed : List ℕ). run_file c.args.source.now c.args.limits workers printed) c.from-workers.ensures c.console.ensures in
    subst (λ file. IsRecordOf c.args.is_asked events file c.with_run_file.result) says
    (subst (λ asked. IsRecordOf asked events c.of-file.result c.with_run_file.result) (sym c.if-not-is_asked.false)
    (c.with_run_file.ensures events c.in-Ok.ensures.written))

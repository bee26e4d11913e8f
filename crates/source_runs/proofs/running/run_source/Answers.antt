use Rattle.std.proofs.Common.{inl, inr, subst, sym}
use Rattle.schedule_text.specs.Items.{events_of as events_in}
use Rattle.shared_machine.specs.Histories.{events_of}
use Rattle.shared_machine.specs.Worlds.{AreDoneOf}
use Rattle.acceptance.proofs.SourceLemmas.{handed_on}
use Rattle.source_runs.specs.Runs.{IsNotRunBy}
use Rattle.source_runs.proofs.running.run_source.Goals as goal

pub returns-in_err-machine-clause-refused : goal.returns-in_err-machine-clause-refused
returns-in_err-machine-clause-refused g c =
    handed_on c.from_residual.result c.from_residual.ensures.1 (λ failure same.
    subst (IsNotRunBy c.args.source.now c.args.limits c.args.text.now) (sym same) c.in_err-machine.ensures.refused)

pub returns-in_err-run-clause-refused : goal.returns-in_err-run-clause-refused
returns-in_err-run-clause-refused g c =
    let ready = c.in_ok-machine.ensures.opened in
    handed_on c.from_residual-in_err-run.result c.from_residual-in_err-run.ensures.1 (λ failure memory. inl (inr ((ready.tree, ready.is_accepted), inr (ready.in_range, memory))))

pub returns-clause-printed : goal.returns-clause-printed
returns-clause-printed g c =
    let ready = c.in_ok-machine.ensures.opened in
    c.in_ok-run.ensures.printed ready.tree c.args.limits ready.opened.initial

pub returns-clause-ran : goal.returns-clause-ran
returns-clause-ran g c =
    let ready = c.in_ok-machine.ensures.opened in
    let outcome = c.in_ok-run.field-0 in
    record {
      events = events_in c.in_ok-machine.items.items;
      are_read = ready.are_read;
      are_done = subst (λ is. AreDoneOf (events_in is) (events_of outcome.history.entries) outcome.is_out_of_memory) c.as_slice.ensures.value c.in_ok-run.ensures.events;
      ran = (ready.tree, ready.is_accepted, c.in_ok-run.ensures.ran ready.tree c.args.limits ready.done);
    }

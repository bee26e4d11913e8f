use Rattle.std.proofs.Common.{◌≡◌, ◌≤◌, arith, length, sym, subst, true, ◌∙◌}
use Rattle.std.specs.Prelude.{nat_le}
use Rattle.std.proofs.lemmas.Bool.Decides.{nat_tests}
use Rattle.schedule_text.specs.Items.{events_of}
use Rattle.schedule_text.specs.Writings.{IsNotWritten}
use Rattle.schedule_text.specs.declared.errors.TheConstants.{MOST_EVENTS}
use Rattle.schedule_text.proofs.ReadingLemmas.{refused}
use Rattle.schedule_text.proofs.writing.write_schedule.Goals as goal

pub returns-in_err-write_runs : goal.returns-in_err-write_runs
returns-in_err-write_runs c =
    let test : nat_le (length (events_of c.args.items.now)) MOST_EVENTS ≡ true = sym c.are_few.ensures ∙ c.if-not-are_few.false in
    let few : length (events_of c.args.items.now) ≤ MOST_EVENTS = grind (arith, nat_tests, test) in
    refused _ c.from_residual.result c.from_residual.ensures.1 (λ error same.
    subst (IsNotWritten (events_of c.args.items.now)) (sym same) (few, sym c.have_thread_numbers.ensures ∙ c.if-not-have_thread_numbers.false))

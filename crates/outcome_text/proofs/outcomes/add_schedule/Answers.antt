use Rattle.std.proofs.Common.{◌∙◌, ◌++◌, ap, length}
use Rattle.std.specs.Prelude.{string_bytes}
use Rattle.std.proofs.lemmas.Result.{on_ok_weaker}
use Rattle.outcome_text.specs.Outcomes.{schedule_line}
use Rattle.outcome_text.proofs.outcomes.add_schedule.Goals as goal

pub returns : goal.returns
returns c =
    on_ok_weaker c.add_written.result (λ added. (
      string_bytes c.in_ok-schedule.schedule,
      c.in_ok-schedule.ensures,
      added ∙ ap (λ s. string_bytes c.args.text.now ++ schedule_line c.args.preemptions (length c.args.events.now) s) c.as_str.ensures.value,
    )) c.add_written.ensures

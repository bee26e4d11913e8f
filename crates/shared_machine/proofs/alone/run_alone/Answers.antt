use Rattle.std.proofs.Common.{sym, subst}
use Rattle.schedule_text.specs.Items.{events_of as events_in}
use Rattle.shared_machine.specs.Histories.{AreOf}
use Rattle.shared_machine.specs.Worlds.{AgreesWith, AreDoneOf, IsPrintedWithin}
use Rattle.shared_machine.proofs.OneWorker.{counted_all, counted_first, of_only, taken}
use Rattle.shared_machine.proofs.alone.run_alone.Goals as goal

pub act_while_memory_lasts-ticket-requires : goal.act_while_memory_lasts-ticket-requires
act_while_memory_lasts-ticket-requires g c = counted_first _ (taken _ _ _ _ c.in-Some.ensures.items c.in_ok-shared.ensures.1).0

pub returns-clause-printed : goal.returns-clause-printed
returns-clause-printed g c = subst (λ most. IsPrintedWithin most g.M.Initial.initial_state c.in-Ok.outcome.machine) (sym c.requires.printed) c.in-Ok.ensures.printed

pub returns-clause-events : goal.returns-clause-events
returns-clause-events g c =
    let h = c.in-Ok.outcome.history.entries in
    let left = (taken _ _ _ _ c.in-Some.ensures.items c.in_ok-shared.ensures.1).1 in
    let (done, counted, are) = c.act_while_memory_lasts-ticket.ensures.done in
    let same = counted_all done c.act_while_memory_lasts-ticket.result.0 h counted
    (subst (λ n. AreOf n h) c.requires.alone c.in-Ok.ensures.theirs)
    (of_only (AgreesWith h) _ _ c.act_while_memory_lasts-ticket.result.0 c.push_reserved.ensures.items left c.in-Ok.ensures.counts) in
    subst (λ es. AreDoneOf (events_in c.args.items.now) es c.act_while_memory_lasts-ticket.result.1) (sym same) are

pub returns-clause-ran : goal.returns-clause-ran
returns-clause-ran g c = c.in-Ok.ensures.ran

use Rattle.std.proofs.Common.{◌≡◌, subst}
use Rattle.std.specs.Prelude.{IfOk, IfSome}
use Rattle.shared_machine.specs.Counts.{Count}
use Rattle.shared_machine.specs.Codes.{add}
use Rattle.shared_machine.specs.Histories.{count_of}
use Rattle.shared_machine.specs.Worlds.{IfDid}
use Rattle.api_tests.proofs.two_workers.run_both.Goals as goal

-- the tickets are those of the workers 0 and 1, and count nothing yet
pub returns-clause-one : goal.returns-clause-one
returns-clause-one g c =
    let tickets = subst (λ made. IfSome made (λ m. (m.1 ≡ record { worker = 0; count = 0 }) × (m.2 ≡ record { worker = 1; count = 0 }))) c.in-Some.is c.in_ok-shared.ensures in
    subst (λ (ticket : Count). IfOk c.act_both.result (λ end. IfSome end (λ x. IfDid x.0 (λ report. count_of ticket.worker x.2.history.entries ≡ add ticket.count c.args.first report)))) tickets.0 c.act_both.ensures.one

pub returns-clause-other : goal.returns-clause-other
returns-clause-other g c =
    let tickets = subst (λ made. IfSome made (λ m. (m.1 ≡ record { worker = 0; count = 0 }) × (m.2 ≡ record { worker = 1; count = 0 }))) c.in-Some.is c.in_ok-shared.ensures in
    subst (λ (ticket : Count). IfOk c.act_both.result (λ end. IfSome end (λ x. IfDid x.1 (λ report. count_of ticket.worker x.2.history.entries ≡ add ticket.count c.args.second report)))) tickets.1 c.act_both.ensures.other

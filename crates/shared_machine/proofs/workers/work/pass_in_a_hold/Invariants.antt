use Rattle.shared_machine.specs.Work.{HasWorked, IsHeraldOf, IsSeatHere}
use Rattle.shared_machine.proofs.workers.work.pass_in_a_hold.Given as goal

abbrev pub invariant-loop-pass : goal.invariant-loop-pass
invariant-loop-pass g l = record {
  here : IsSeatHere l.epochs l.worker.seat × IsHeraldOf l.epochs l.worker.herald;
  worked : HasWorked l.plan.workers l.fn.worker.ticket l.worker.ticket;
}

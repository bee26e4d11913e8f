use Rattle.shared_machine.specs.Work.{HasWorked, IsHeraldOf}
use Rattle.shared_machine.proofs.workers.passes.make_row_beside_others.Given as goal

abbrev pub invariant-loop-pass : goal.invariant-loop-pass
invariant-loop-pass g l = record {
  here : IsHeraldOf l.epochs l.herald;
  worked : HasWorked l.workers l.fn.ticket l.ticket;
}

use Rattle.std.proofs.Common.{subst, sym}
use Rattle.interleaving_core.specs.simulation.cil_model.Legality.{IsLegal}
use Rattle.exploration.proofs.Names.{MachineState, one_operation, IsLagging}
use Rattle.exploration.proofs.SamePrograms.{initial_program, same_initial_state}
use Rattle.exploration.proofs.LagTransitivity.{lagging_itself}
use Rattle.exploration.proofs.LentFrameProgress.{still_at_origin, taken_back}
use Rattle.exploration.proofs.replayers.Replayer.run_local.Goals as goal

pub take_back-requires-clause-tree : goal.take_back-requires-clause-tree
take_back-requires-clause-tree g c = (still_at_origin c.self.inside.machine c.args.thread c.lend-loan.result c.run.new.self c.lend-loan.ensures c.run.ensures).0

pub take_back-requires-clause-origin : goal.take_back-requires-clause-origin
take_back-requires-clause-origin g c = (still_at_origin c.self.inside.machine c.args.thread c.lend-loan.result c.run.new.self c.lend-loan.ensures c.run.ensures).1

pub invariant_of-self : goal.invariant_of-self
invariant_of-self g c = same_initial_state c.self.inside.machine c.take_back.new.self g.M.First.first c.take_back.ensures.same c.self.invariant

pub returns : goal.returns
returns g c =
    let here = c.self.inside.machine in
    let origin = still_at_origin here c.args.thread c.lend-loan.result c.run.new.self c.lend-loan.ensures c.run.ensures in
    subst (λ (x : MachineState). IsLagging x c.take_back.new.self) c.self.view_is (taken_back here c.take_back.new.self c.run.new.self (one_operation here.tree (subst IsLegal (sym (initial_program here g.M.First.first c.self.invariant).0) c.requires)) origin.0 origin.1 c.laws.ensures c.take_back.ensures.transitions)

pub returns-then-not-is_live : goal.returns-then-not-is_live
returns-then-not-is_live g c = lagging_itself c.args.self.now

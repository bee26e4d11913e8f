use Rattle.std.proofs.Common.{List, drop, length, subst}
use Rattle.exploration.proofs.Names.{Report, MachineState, AreTransitions}
use Rattle.exploration.proofs.SamePrograms.{one_initial_state, on_ok, reopened_initial_state}
use Rattle.exploration.proofs.replayers.Replayer.replay.Goals as goal

pub returns : goal.returns
returns g c =
    let first = one_initial_state c.self.inside.machine c.reopen.new.self g.M.First.first c.in_ok-reopen.ensures.begins c.self.invariant in
    let reports : List Report = drop (length c.clear.new.self.items) c.run.new.reports.items in
    on_ok c.run.result c.run.ensures.transitions (λ transitions. record { reports = reports; transitions = subst (λ (x : MachineState). AreTransitions x c.args.events.now c.run.new.self reports) first transitions })

pub invariant_of-self : goal.invariant_of-self
invariant_of-self g c = reopened_initial_state c.self.inside.machine c.reopen.new.self g.M.First.first c.self.invariant c.reopen.result c.reopen.ensures.begins c.reopen.ensures.refused

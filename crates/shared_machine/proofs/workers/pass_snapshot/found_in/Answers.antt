use Rattle.std.proofs.Common.{◌≢◌, ap, sym, ◌∙◌, length, ne_eqb}
use Rattle.std.specs.Prelude.{◌||◌}
use Rattle.std.specs.List.{count_by}
use Rattle.interleaving_core.specs.simulation.MachineStates.{MachineState}
use Rattle.interleaving_core.specs.simulation.threads_monitors.Threads.{is_live}
use Rattle.shared_machine.proofs.ServedThreads.{none_served}
use Rattle.shared_machine.proofs.workers.pass_snapshot.found_in.Goals as goal

-- a thread that is served is live
pub returns-else-served-eq0-clause-last : goal.returns-else-served-eq0-clause-last
returns-else-served-eq0-clause-last g c =
    let machine = c.machine-machine.result.now in
    let live = count_by is_live c.args.world.now.core.threads in
    let some : live ≢ 0 = λ none.
    c.if-served-eq0.false (c.served_threads-served.ensures.count
    ∙ none_served machine c.args.workers c.args.worker (ap (λ (s : MachineState). count_by is_live s.threads) c.machine-machine.ensures ∙ none) (length machine.threads))
    in
    ne_eqb c.served_threads-served.result 0 c.if-served-eq0.false
    ∙ sym (ap (λ b. b || c.args.world.now.stopped) (ne_eqb live 0 some) ∙ sym c.is_stopped-is_stopped.ensures ∙ c.if-is_stopped.false)

use Rattle.std.proofs.Common.{◌≡◌, length, ap, ◌∙◌, arith}
use Rattle.simulation.specs.MachineStates.{MachineState}
use Rattle.interleaving_core.specs.Prints.{next_print}
use Rattle.interleaving_core.proofs.Threads.PrintedOutput.{prints_within}
use Rattle.interleaving_core.proofs.Runs.RepresentedStates.{can_continue}
use Rattle.interleaving_core.proofs.machine.Machine.print_length.Goals as goal

pub print_length-requires : goal.print_length-requires
print_length-requires c = record { ready = can_continue c.self.inside.engine c.self.invariant }

pub returns-clause-printed : goal.returns-clause-printed
returns-clause-printed c after transition =
    let few = prints_within c.args.self.now after c.args.event transition in
    let same : c.print_length.result ≡ length (next_print c.args.self.now c.args.event) = c.print_length.ensures ∙ ap (λ (x : MachineState). length (next_print x c.args.event)) c.self.view_is in
    omega (arith, few, same)

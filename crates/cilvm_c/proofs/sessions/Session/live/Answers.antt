use Rattle.std.proofs.Common.{arith}
use Rattle.std.proofs.lemmas.List.Sums.{count_by-le-length}
use Rattle.interleaving_core.specs.simulation.threads_monitors.Threads.{is_live}
use Rattle.cilvm_c.proofs.sessions.Session.live.Goals as goal

pub overflow_cast-result : goal.overflow_cast-result
overflow_cast-result c =
    let few = count_by-le-length is_live c.in-Some.machine.threads in
    let all = c.started-started.ensures.all in
    let most = c.started-started.ensures.few in
    let live = c.live.ensures in
    record { fits = omega (arith, few, all, most, live) }

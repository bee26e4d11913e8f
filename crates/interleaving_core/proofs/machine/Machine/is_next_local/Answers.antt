use Rattle.std.proofs.Common.{refl, sym, subst}
use Rattle.simulation.specs.interpreter.Local.{IsReadySomewhere}
use Rattle.interleaving_core.specs.Views.{machine_state_of}
use Rattle.interleaving_core.proofs.Threads.LiveFrames.{live_left, live_room, top_continues}
use Rattle.interleaving_core.proofs.machine.Machine.is_next_local.Goals as goal

pub is_next_local-requires : goal.is_next_local-requires
is_next_local-requires c = λ left m there.
    let e = machine_state_of c.self.inside.engine in
    let s = c.self.invariant.state in
    let r = c.self.invariant.represents in
    let ready = top_continues e s r c.args.thread left m there 0 m.running (live_left e s r c.args.thread left m there) refl in
    subst (λ n. IsReadySomewhere e.tree n m.running) (sym (live_room e s r c.args.thread left m there)) ready

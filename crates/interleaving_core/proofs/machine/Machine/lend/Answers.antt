use Rattle.interleaving_core.specs.Views.{machine_state_of}
use Rattle.interleaving_core.proofs.Threads.LiveFrames.{live_left, live_room, top_continues}
use Rattle.interleaving_core.proofs.machine.Machine.lend.Goals as goal

pub lend-requires-clause-ready : goal.lend-requires-clause-ready
lend-requires-clause-ready c = λ left m there.
    let e = machine_state_of c.self.inside.engine in (
      live_room e c.self.invariant.state c.self.invariant.represents c.args.thread left m there,
      live_left e c.self.invariant.state c.self.invariant.represents c.args.thread left m there,
      top_continues e c.self.invariant.state c.self.invariant.represents c.args.thread left m there,
    )

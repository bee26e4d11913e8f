use Rattle.std.proofs.Common.{Some, sym, ap, ◌∙◌}
use Rattle.simulation.specs.CollectorSteps.{with_status_marked, with_thread_marked}
use Rattle.object_memory.specs.Objects.{Objects}
use Rattle.interleaving_core.specs.Views.{machine_state_of}
use Rattle.interleaving_core.proofs.CollectorTransitions.FrameReferences.{held_there}
use Rattle.interleaving_core.proofs.Threads.IndexedThreads.{read_there}
use Rattle.interleaving_core.proofs.Threads.HalfSteps.{thread_is}
use Rattle.interleaving_core.proofs.engine.Engine.mark_held.Goals as goal

pub mark_frames-requires-clause-there : goal.mark_frames-requires-clause-there
mark_frames-requires-clause-there c =
    let there = read_there c.args.self.now.threads.items c.deref.result.now c.args.thread c.from.result c.in-Some.thread.now c.deref.ensures.value c.from.ensures c.in-Some.ensures.lookup.3.0 c.in-Some.ensures.lookup.1 in
    held_there (machine_state_of c.args.self.now) c.args.thread c.requires.sound c.in-Some.thread.now.steps_left c.in-Live.frames (there ∙ ap Some (thread_is c.in-Some.thread.now c.in-Live.frames c.in-Live.is))

pub returns-in-Live : goal.returns-in-Live
returns-in-Live c =
    let there = read_there c.args.self.now.threads.items c.deref.result.now c.args.thread c.from.result c.in-Some.thread.now c.deref.ensures.value c.from.ensures c.in-Some.ensures.lookup.3.0 c.in-Some.ensures.lookup.1 in
    ap (λ (o : Objects). record (machine_state_of c.args.self.now) { objects = o })
    (c.mark_frames.ensures ∙ sym (ap (with_thread_marked c.args.self.now.store.heap) there ∙ ap (with_status_marked c.args.self.now.store.heap) c.in-Live.is))

pub returns-in_default-thread_status : goal.returns-in_default-thread_status
returns-in_default-thread_status c =
    let there = read_there c.args.self.now.threads.items c.deref.result.now c.args.thread c.from.result c.in-Some.thread.now c.deref.ensures.value c.from.ensures c.in-Some.ensures.lookup.3.0 c.in-Some.ensures.lookup.1 in
    ap (λ (o : Objects). record (machine_state_of c.args.self.now) { objects = o })
    (sym (ap (with_thread_marked c.args.self.now.store.heap) there ∙ ap (with_status_marked c.args.self.now.store.heap) c.in_default-thread_status.is))

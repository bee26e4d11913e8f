use Rattle.std.proofs.Common.{◌≡◌, ap, length, rules, vec_len, Some, ◌∙◌}
use Rattle.simulation.specs.Transitions.{live_thread}
use Rattle.interleaving_core.specs.Views.{machine_state_of}
use Rattle.interleaving_core.proofs.Threads.HalfSteps.{live_there}
use Rattle.interleaving_core.proofs.Threads.IndexedThreads.{live_within, reached, reached_live, reached_there}
use Rattle.interleaving_core.proofs.Threads.LiveFrames.{ran_in_place}
use Rattle.interleaving_core.proofs.engine.Engine.run_local.Goals as goal

pub index_mut-requires : goal.index_mut-requires
index_mut-requires c =
    let counted : vec_len c.args.self.now.threads ≡ length c.args.self.now.threads.items = search rules in
    rw counted (live_within c.args.self.now.threads.items c.args.thread c.from.result c.from.ensures c.requires.live)

pub run_in_place-requires-clause-live : goal.run_in_place-requires-clause-live
run_in_place-requires-clause-live c = reached_live c.args.self.now.threads.items c.args.thread c.from.result c.from.ensures c.index_mut.result.now c.index_mut.ensures.value c.requires.live

pub run_in_place-requires-clause-ready : goal.run_in_place-requires-clause-ready
run_in_place-requires-clause-ready c left m is =
    c.requires.ready left m (reached_there c.args.self.now.threads.items c.args.thread c.from.result c.from.ensures c.index_mut.result.now c.index_mut.ensures.value c.requires.live ∙ ap Some is)

pub returns : goal.returns
returns c =
    let there = live_there c.args.self.now.threads.items c.args.thread c.requires.live in
    let thread = reached c.args.self.now.threads.items c.args.thread c.from.result c.from.ensures c.index_mut.result.now c.index_mut.ensures.value (live_thread there.0 there.1) there.2 in
    let ran = c.run_in_place.ensures there.0 there.1 thread in
    ran_in_place (machine_state_of c.args.self.now) c.args.thread c.from.result there.0 c.args.most c.run_in_place.result there.1 ran.0 c.run_in_place.new.thread c.from.ensures there.2 (c.requires.ready there.0 there.1 there.2).0 ran.1 ran.2

use Rattle.std.proofs.Common.{◌≡◌, ap, length, rules, subst, vec_len}
use Rattle.std.proofs.lemmas.Result.{IfOk-weaker, on_err_weaker}
use Rattle.simulation.specs.interpreter.Instructions.{Prints}
use Rattle.simulation.specs.Transitions.{live_thread}
use Rattle.threads_monitors.specs.declared.mutators.Mutator.{Mutator}
use Rattle.threads_monitors.specs.declared.threads.Thread.{Thread}
use Rattle.interleaving_core.specs.Views.{machine_state_of}
use Rattle.interleaving_core.proofs.Threads.IndexedThreads.{instructed, live_within, reached, reached_live, reached_with, ready_for, refused_is}
use Rattle.interleaving_core.proofs.engine.Engine.instruct.Goals as goal

pub index_mut-requires : goal.index_mut-requires
index_mut-requires c =
    let counted : vec_len c.args.self.now.threads ≡ length c.args.self.now.threads.items = search rules in
    rw counted (live_within c.args.self.now.threads.items c.args.number c.from.result c.from.ensures c.requires.live)

pub instruct-requires-clause-live : goal.instruct-requires-clause-live
instruct-requires-clause-live c = reached_live c.args.self.now.threads.items c.args.number c.from.result c.from.ensures c.index_mut.result.now c.index_mut.ensures.value c.requires.live

pub instruct-requires-clause-pc : goal.instruct-requires-clause-pc
instruct-requires-clause-pc c m e =
    let there = reached_with c.args.self.now.threads.items c.args.number c.from.result c.from.ensures c.index_mut.result.now c.index_mut.ensures.value c.requires.live m e in
    (c.requires.ready.ready c.args.number c.index_mut.result.now.steps_left m there).pc

pub instruct-requires-clause-there : goal.instruct-requires-clause-there
instruct-requires-clause-there c m e =
    let there = reached_with c.args.self.now.threads.items c.args.number c.from.result c.from.ensures c.index_mut.result.now c.index_mut.ensures.value c.requires.live m e in
    ready_for (machine_state_of c.args.self.now) c.args.number m (record { number = c.args.number; phase = c.phase.result }) (ap (λ p. record { number = c.args.number; phase = p }) c.phase.ensures)
    (c.requires.ready.ready c.args.number c.index_mut.result.now.steps_left m there)

pub returns-clause-instructed : goal.returns-clause-instructed
returns-clause-instructed c =
    IfOk-weaker c.instruct.result _ _
    (λ outcome done. instructed (machine_state_of c.args.self.now) c.args.number c.from.result c.from.ensures c.index_mut.result.now c.index_mut.ensures.value
    (record { number = c.args.number; phase = c.phase.result }) (ap (λ p. record { number = c.args.number; phase = p }) c.phase.ensures) c.requires.live c.instruct.new.thread c.instruct.new.store.heap
    c.instruct.new.store.statics.items c.instruct.new.store.console.items outcome done) c.instruct.ensures.done

pub returns-clause-prints : goal.returns-clause-prints
returns-clause-prints c =
    on_err_weaker c.instruct.result
    (λ prints left m there.
    let is = reached c.args.self.now.threads.items c.args.number c.from.result c.from.ensures c.index_mut.result.now c.index_mut.ensures.value (live_thread left m) there in
    subst (λ (u : Mutator). Prints c.args.self.now.program u m c.args.self.now.store.heap c.args.self.now.store.statics.items c.args.self.now.store.console.items)
    (ap (λ p. record { number = c.args.number; phase = p }) c.phase.ensures) (prints m (ap (λ (x : Thread). x.thread_status) is)))
    c.instruct.ensures.prints

pub returns-clause-refused : goal.returns-clause-refused
returns-clause-refused c =
    on_err_weaker c.instruct.result
    (λ kept. refused_is (machine_state_of c.args.self.now) c.args.number c.from.result c.from.ensures c.index_mut.result.now c.index_mut.ensures.value c.instruct.new.thread c.instruct.new.store.heap
    c.instruct.new.store.statics.items c.instruct.new.store.console.items kept.0 kept.1.heap kept.1.statics kept.1.console)
    c.instruct.ensures.refused

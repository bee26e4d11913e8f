use Rattle.std.proofs.Common.{◌≡◌, None, sym, ap, ◌∙◌}
use Rattle.std.specs.Prelude.{[], ◌∷◌}
use Rattle.std.proofs.lemmas.Result.{IfOk-from_err}
use Rattle.object_memory.specs.declared.values.Value.TheVariants.{Ref}
use Rattle.threads_monitors.specs.Threads.{new_thread, start_fault}
use Rattle.threads_monitors.specs.declared.threads.Thread.{Thread}
use Rattle.std.specs.Prelude.{List}
use Rattle.simulation.specs.Transitions.{start_thread}
use Rattle.interleaving_core.proofs.Threads.IndexedThreads.{started_is}
use Rattle.interleaving_core.proofs.Threads.RefusedMemory.{on_err}
use Rattle.interleaving_core.proofs.engine.Engine.start.Goals as goal

pub thread_start_on-thread_start-requires-clause-there : goal.thread_start_on-thread_start-requires-clause-there
thread_start_on-thread_start-requires-clause-there c =
    let free : start_fault c.args.self.now.threads.items c.args.self.now.store.heap c.args.object ≡ None =
    ap (λ (threads : List Thread). start_fault threads c.args.self.now.store.heap c.args.object) (sym c.deref.ensures.value) ∙ sym c.start_fault.ensures ∙ c.in_default.is in
    c.requires.there free

pub returns-clause-started : goal.returns-clause-started
returns-clause-started c =
    let free : start_fault c.args.self.now.threads.items c.args.self.now.store.heap c.args.object ≡ None =
    ap (λ (threads : List Thread). start_fault threads c.args.self.now.store.heap c.args.object) (sym c.deref.ensures.value) ∙ sym c.start_fault.ensures ∙ c.in_default.is in
    started_is c.phase.result c.args.self.now.program c.args.self.now.limits c.args.self.now.threads.items c.args.self.now.store.heap c.args.object (new_thread c.thread_start_on-thread_start.result (Ref c.args.object ∷ []))
    (c.start.new.threads.items, c.start.new.heap, c.in_ok-effect.effect) free c.thread_start_on-thread_start.ensures.begins c.in_ok-effect.ensures.started
    ∙ ap (λ p. start_thread p c.args.self.now.program c.args.self.now.limits c.args.self.now.threads.items c.args.self.now.store.heap c.args.object) c.phase.ensures

pub returns-in_err-effect-clause-started : goal.returns-in_err-effect-clause-started
returns-in_err-effect-clause-started c = IfOk-from_err c.from_residual.result _ c.from_residual.ensures.0

pub returns-in_err-effect-clause-others : goal.returns-in_err-effect-clause-others
returns-in_err-effect-clause-others c = IfOk-from_err c.from_residual.result _ c.from_residual.ensures.0

pub returns-in_err-effect-clause-free : goal.returns-in_err-effect-clause-free
returns-in_err-effect-clause-free c =
    let free : start_fault c.args.self.now.threads.items c.args.self.now.store.heap c.args.object ≡ None =
    ap (λ (threads : List Thread). start_fault threads c.args.self.now.store.heap c.args.object) (sym c.deref.ensures.value) ∙ sym c.start_fault.ensures ∙ c.in_default.is in
    on_err c.from_residual.result free

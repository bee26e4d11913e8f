use Rattle.std.proofs.Common.{ℕ, List, slice_set, refl, sym, ap, ◌∙◌}
use Rattle.std.proofs.lemmas.Option.{same_Some}
use Rattle.threads_monitors.specs.declared.threads.Thread.{Thread}
use Rattle.simulation.specs.MachineStates.{frame_room}
use Rattle.simulation.specs.Transitions.{live_thread}
use Rattle.simulation.specs.interpreter.Local.{frames_over}
use Rattle.interleaving_core.specs.Views.{machine_state_of}
use Rattle.interleaving_core.proofs.Threads.IndexedThreads.{read_there}
use Rattle.interleaving_core.proofs.engine.Engine.take_back.Goals as goal

pub returns : goal.returns
returns c = λ at.
    let loan = c.args.loan.now in
    let threads = c.args.self.now.threads.items in
    let there = read_there threads threads loan.thread c.from.result c.in-Some.thread.now refl (c.from.ensures ∙ c.thread.ensures) (c.in-Some.ensures.item.3.0) c.in-Some.ensures.value in
    let m = frames_over loan.origin at.below at.depth frame_room in
    let new = c.give_back_to.ensures m (same_Some c.in-Some.thread.now (live_thread loan.left m) (sym there ∙ at.there)) in
    ap (λ (l : List Thread). record (machine_state_of c.args.self.now) { threads = l })
    (ap (λ (k : ℕ). slice_set threads k c.give_back_to.new.thread) (c.from.ensures ∙ c.thread.ensures) ∙ ap (slice_set threads loan.thread) new)

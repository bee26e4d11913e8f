use Rattle.std.proofs.Common.{◌≡◌, ℕ, List, Some, slice_get, slice_set, refl, sym, ap, ◌∙◌}
use Rattle.simulation.specs.CollectorSteps.{status_flipped, thread_flipped, with_flipped}
use Rattle.simulation.specs.MachineStates.{MachineState}
use Rattle.threads_monitors.specs.Frames.{Frames}
use Rattle.threads_monitors.specs.declared.threads.ThreadStatus.{ThreadStatus}
use Rattle.threads_monitors.specs.declared.threads.ThreadStatus.TheVariants.{Live}
use Rattle.threads_monitors.specs.declared.threads.Thread.{Thread}
use Rattle.interleaving_core.specs.Views.{machine_state_of}
use Rattle.interleaving_core.proofs.CollectorTransitions.FrameReferences.{held_there}
use Rattle.interleaving_core.proofs.Threads.IndexedThreads.{read_there}
use Rattle.interleaving_core.proofs.Threads.HalfSteps.{thread_is}
use Rattle.interleaving_core.proofs.engine.Engine.flip_held.Goals as goal

-- one thread in place of its flipped self
with_flipped_is : (c : MachineState) (t i : ℕ) → i ≡ t → (x new : Thread) → slice_get c.threads t ≡ Some x → new ≡ thread_flipped c.objects x
    → ◌≡◌ {A = MachineState} (record c { threads = slice_set c.threads i new }) (record c { threads = with_flipped c.objects c.threads t (slice_get c.threads t) })
with_flipped_is c t i number x new there is =
    ap (λ (l : List Thread). record c { threads = l })
    (ap (λ (k : ℕ). slice_set c.threads k new) number
    ∙ (ap (slice_set c.threads t) is ∙ sym (ap (with_flipped c.objects c.threads t) there)))

pub flip_frames-requires : goal.flip_frames-requires
flip_frames-requires c =
    let threads = c.args.self.now.threads.items in
    let there = read_there threads threads c.args.thread c.from.result c.in-Some.thread.now refl c.from.ensures (c.in-Some.ensures.item.3.0) c.in-Some.ensures.value in
    record { there = held_there (machine_state_of c.args.self.now) c.args.thread c.requires.sound c.in-Some.thread.now.steps_left c.in-Live.frames (there ∙ ap Some (thread_is c.in-Some.thread.now c.in-Live.frames c.in-Live.is)) }

pub returns-in-Live : goal.returns-in-Live
returns-in-Live c =
    let threads = c.args.self.now.threads.items in
    let thread = c.in-Some.thread.now in
    let heap = c.args.self.now.store.heap in
    let there = read_there threads threads c.args.thread c.from.result thread refl c.from.ensures (c.in-Some.ensures.item.3.0) c.in-Some.ensures.value in
    let as_status : ThreadStatus → Thread = λ s. record { thread_status = s; steps_left = thread.steps_left } in
    with_flipped_is (machine_state_of c.args.self.now) c.args.thread c.from.result c.from.ensures thread (as_status (Live c.flip_frames.new.frames)) there
    (ap (λ (m : Frames). as_status (Live m)) c.flip_frames.ensures ∙ sym (ap (λ (s : ThreadStatus). as_status (status_flipped heap s)) c.in-Live.is))

pub returns-in_default-thread_status : goal.returns-in_default-thread_status
returns-in_default-thread_status c =
    let threads = c.args.self.now.threads.items in
    let thread = c.in-Some.thread.now in
    let heap = c.args.self.now.store.heap in
    let there = read_there threads threads c.args.thread c.from.result thread refl c.from.ensures (c.in-Some.ensures.item.3.0) c.in-Some.ensures.value in
    let as_status : ThreadStatus → Thread = λ s. record { thread_status = s; steps_left = thread.steps_left } in
    with_flipped_is (machine_state_of c.args.self.now) c.args.thread c.from.result c.from.ensures thread thread there
    (ap as_status c.in_default-thread_status.is ∙ sym (ap (λ (s : ThreadStatus). as_status (status_flipped heap s)) c.in_default-thread_status.is))

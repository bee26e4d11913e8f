-- Where a machine represents a state, the frames of each live thread have the room that they should, steps are left to it, and local instructions can be
-- done on its top frame.
use Rattle.std.proofs.Common.{◌≡◌, ◌<◌, ◌≤◌, ◌-◌, ℕ, List, false, length, Option, Some, None, slice_get, slice_set, sym, ap, subst, ◌∙◌}
use Rattle.std.specs.Prelude.{option_map}
use Rattle.std.proofs.Common.{Bor}
use Rattle.std.proofs.lemmas.List.{length-set}
use Rattle.std.specs.Option.{option_map_or}
use Rattle.cil_model.specs.declared.limits.TheConstants.{MOST_THREADS}
use Rattle.cil_model.specs.declared.reports.End.{End}
use Rattle.reference_machine.specs.States.{State, Thread as StateThread}
use Rattle.threads_monitors.specs.Frames.{Frame, Frames, with_running}
use Rattle.threads_monitors.specs.Threads.{is_live}
use Rattle.threads_monitors.specs.declared.threads.Thread.{Thread}
use Rattle.simulation.specs.interpreter.Local.{AreLocalSteps, frames_over}
use Rattle.simulation.specs.LentFrames.{RunsFrame, with_live}
use Rattle.simulation.specs.MachineStates.{MachineState, frame_room}
use Rattle.simulation.specs.Refines.{IsThread, Represents, StatusRefines}
use Rattle.simulation.specs.Transitions.{live_thread}
use Rattle.simulation.proofs.ListLaws.AgreeingLists.{agree_at}
use Rattle.simulation.proofs.Threads.LocalInstructions.{local_ready, local_represents}
use Rattle.interleaving_core.specs.Loans.{CanContinueLocally, IsLocalRun, RanInPlace}
use Rattle.interleaving_core.specs.Views.{IsSoundEngine, machine_state_of}
use Rattle.interleaving_core.specs.declared.engine.Engine.{Engine}
use Rattle.interleaving_core.proofs.Threads.LiveThreads.{live_have_steps}

module _ (c : MachineState) (s : State) (r : Represents c s) (t left : ℕ) (m : Frames) (there : slice_get c.threads t ≡ Some (live_thread left m)) where
  pub live_room : m.room ≡ frame_room
  live_room =
      let at = agree_at (IsThread c.tree c.limits r.refines.name) c.threads s.threads r.refines.by.threads t (live_thread left m) there in
      by_end at.0 at.0.ended at.2.thread_status
    where
      by_end : (u : StateThread) (ended : Option End) → StatusRefines c.tree c.limits r.refines.name (live_thread left m).thread_status u.frames ended → m.room ≡ frame_room
      by_end u None h = h.room
      by_end u (Some e) h = absurd h

  pub live_left : 0 < left
  live_left = subst (λ (o : Option Thread). 0 < option_map_or (λ (x : Thread). x.steps_left) o c.limits.budget) there (live_have_steps c s r t (ap (λ (o : Option Thread). option_map_or is_live o false) there))

  -- the top frame runs there
  pub top_runs : RunsFrame c t left m.running
  top_runs = record {
    below = m.below;
    depth = m.depth;
    there = there ∙ ap (λ n. Some (live_thread left (frames_over m.running m.below m.depth n))) live_room;
  }

  pub top_continues : CanContinueLocally c.tree left m.running
  top_continues n g less steps = local_ready c t left m.running top_runs s r n g less steps

-- a machine advances to one that represents a state
pub lent_sound : (e e' : Engine) → IsSoundEngine e → (t left n : ℕ) (f g : Frame) → (at : RunsFrame (machine_state_of e) t left f) → n < left → AreLocalSteps (machine_state_of e).tree frame_room n f g
    → machine_state_of e' ≡ with_live (machine_state_of e) t (left - n) (frames_over g at.below at.depth frame_room) → IsSoundEngine e'
lent_sound e e' sound t left n f g at less steps is =
    let more = local_represents (machine_state_of e) t left f at sound.state sound.represents n g less steps in
    record {
      state = more.0;
      represents = subst (λ (x : MachineState). Represents x more.0) (sym is) more.1;
      few = subst (λ (x : MachineState). length x.threads ≤ MOST_THREADS) (sym is) (subst (λ k. k ≤ MOST_THREADS) (sym (length-set e.threads.items t (live_thread (left - n) (frames_over g at.below at.depth frame_room)))) sound.few);
    }

-- ---- a thread that was read

-- what a look-up found
pub found_there : (threads : List Thread) (t i : ℕ) (found : Option (Bor Thread)) (thread : Bor Thread) → option_map (λ (x : Bor Thread). x.now) found ≡ slice_get threads i → i ≡ t → found ≡ Some thread → slice_get threads t ≡ Some thread.now
found_there threads t i found thread looks same is = ap (slice_get threads) (sym same) ∙ sym looks ∙ ap (option_map (λ (x : Bor Thread). x.now)) is

pub none_there : (threads : List Thread) (t i : ℕ) (found : Option (Bor Thread)) → option_map (λ (x : Bor Thread). x.now) found ≡ slice_get threads i → i ≡ t → found ≡ None → slice_get threads t ≡ None
none_there threads t i found looks same is = ap (slice_get threads) (sym same) ∙ sym looks ∙ ap (option_map (λ (x : Bor Thread). x.now)) is

-- a live thread of such frames runs this one
pub runs_frame : (c : MachineState) (t left : ℕ) (f : Frame) (m : Frames) (thread : Thread) → slice_get c.threads t ≡ Some thread → thread ≡ live_thread left m → m.running ≡ f → m.room ≡ frame_room → RunsFrame c t left f
runs_frame c t left f m thread there is same room = record {
  below = m.below;
  depth = m.depth;
  there = there ∙ ap Some is ∙ (λ i. Some (live_thread left (frames_over (same i) m.below m.depth (room i))));
}

-- ---- local instructions in place

pub ran_in_place : (c : MachineState) (t i left most n : ℕ) (m : Frames) (g : Frame) (new : Thread) → i ≡ t → slice_get c.threads t ≡ Some (live_thread left m) → m.room ≡ frame_room → IsLocalRun c.tree left m.running most n g
    → new ≡ live_thread (left - n) (with_running m g) → RanInPlace c t most n (record c { threads = slice_set c.threads i new })
ran_in_place c t i left most n m g new same there room ran is = record {
  left = left;
  origin = m.running;
  frame = g;
  at = record { below = m.below; depth = m.depth; there = there ∙ ap (λ k. Some (live_thread left (frames_over m.running m.below m.depth k))) room };
  ran = ran;
  is = ap (λ (k : ℕ). record c { threads = slice_set c.threads k new }) same ∙ ap (λ (x : Thread). record c { threads = slice_set c.threads t x }) is
      ∙ ap (λ k. with_live c t (left - n) (frames_over g m.below m.depth k)) room;
}

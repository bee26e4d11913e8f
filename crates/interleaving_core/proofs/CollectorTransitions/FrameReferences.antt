-- The objects that the frames of a live thread of a sound machine refer to are there.
use Rattle.std.proofs.Common.{◌≡◌, ℕ, Some, slice_get}
use Rattle.threads_monitors.specs.Frames.{Frames}
use Rattle.threads_monitors.specs.Roots.{roots}
use Rattle.threads_monitors.specs.declared.threads.ThreadStatus.TheVariants.{Live}
use Rattle.simulation.specs.MachineStates.{MachineState}
use Rattle.simulation.specs.Sound.{IsSound}
use Rattle.simulation.proofs.Representation.NormalContents.{has_seat, sound_is_held}
use Rattle.simulation.proofs.collector.ThreadReferences.LiveValues.{live_is_there}
use Rattle.simulation.proofs.collector.Addresses.Tests.{may_hold_live}
use Rattle.interleaving_core.specs.Acknowledgements.{AreAllThere}

pub held_there : (c : MachineState) (t : ℕ) → IsSound c → (left : ℕ) (m : Frames) → slice_get c.threads t ≡ Some (record { thread_status = Live m; steps_left = left }) → AreAllThere c.objects (roots m)
held_there c t sound left m there a listed =
    let seat = has_seat c (sound_is_held c sound) t left m there in
    live_is_there c.posts.posted_phase c.objects a (may_hold_live c.posts c.objects.spaces seat.0 a (sound.threads t left m seat.0 there seat.1 a listed))

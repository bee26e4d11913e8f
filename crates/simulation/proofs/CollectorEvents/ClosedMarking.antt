-- Where marking is closed, all is marked that frames and static fields reach.
use Rattle.std.proofs.Common.{◌≡◌, true, subst}
use Rattle.interpreter.specs.cil_model.declared.phases.Phase.{Phase}
use Rattle.interpreter.specs.cil_model.declared.phases.Phase.TheVariants.{Mark}
use Rattle.interpreter.specs.object_memory.declared.addresses.Addr.{Addr}
use Rattle.interpreter.specs.object_memory.declared.values.Value.TheVariants.{Ref}
use Rattle.collector.specs.Holds.{static_may_hold}
use Rattle.collector.specs.MarkSteps.{is_closed}
use Rattle.collector.specs.Phases.{is_marked_address}
use Rattle.collector.proofs.ThreadReferences.MarkingPhases.{closed_held, closed_held-static}
use Rattle.collector.proofs.PhaseChanges.Rounds.{is_closed-means}
use Rattle.collector.proofs.Addresses.Tests.{marked_has_cell}
use Rattle.simulation.specs.MachineStates.{MachineState}
use Rattle.simulation.specs.ReachedStates.{IsReached, from_frame, from_slot, from_static}
use Rattle.simulation.specs.Sound.{IsSound}
use Rattle.simulation.proofs.Representation.NormalContents.{has_seat, sound_is_held}

module _ (c : MachineState) (sound : IsSound c) (posted_phase : c.posts.posted_phase ≡ Mark) (closed : is_closed c.progress c.objects c.posts ≡ true) where
  pub reached_is_marked : (a : Addr) → IsReached c a → is_marked_address c.objects.spaces a ≡ true
  reached_is_marked _ (from_frame t left m a there listed) =
      let seat = has_seat c (sound_is_held c sound) t left m there in
      closed_held c.progress c.objects c.posts closed t seat.0 seat.1 posted_phase a (sound.threads t left m seat.0 there seat.1 a listed)
  reached_is_marked _ (from_static number a there) =
      closed_held-static c.progress c.objects c.posts closed number a (subst (λ (x : Phase). static_may_hold x c.objects.spaces c.progress number a ≡ true) posted_phase (sound.statics number (Ref a) there))
  reached_is_marked _ (from_slot a cell slot word reached lies inside holds) =
      let old = marked_has_cell c.objects.spaces sound.heap.blocks.spaces a cell lies (reached_is_marked a reached) in
      let means = is_closed-means c.progress c.objects c.posts closed in
      (sound.heap.marks posted_phase).closed means.round means.clean a cell old.0 old.1 slot word inside holds

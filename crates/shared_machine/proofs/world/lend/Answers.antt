use Rattle.std.proofs.Common.{◌≡◌, ◌<◌, ◌≤◌, ℕ, List, Option, Some, length, true, inr, sym, ap, subst, arith, ◌∙◌}
use Rattle.std.specs.Prelude.{slice_set}
use Rattle.cil_model.specs.declared.limits.TheConstants.{MOST_THREADS}
use Rattle.cil_model.specs.declared.trees.Tree.{Tree}
use Rattle.interleaving_core.specs.simulation.MachineStates.{MachineState}
use Rattle.interleaving_core.specs.simulation.threads_monitors.Threads.{is_live_at}
use Rattle.interleaving_core.specs.simulation.threads_monitors.declared.threads.Thread.{Thread}
use Rattle.interleaving_core.proofs.Threads.IndexedThreads.{live_within}
use Rattle.shared_machine.specs.Worlds.{HasRooms, IsLentOut, WorldState, is_lent_in, lent_of}
use Rattle.shared_machine.proofs.Lendings.{lent_out, nothing_taken, read_room, same_tree, shown_as, taken_rooms}
use Rattle.shared_machine.proofs.world.lend.Goals as goal

-- where a live thread's room is
within : (threads : List Thread) (t i count : ℕ) (o : MachineState) (rooms : List (Option Tree)) → HasRooms o rooms → i ≡ t → is_live_at threads t ≡ true → count ≡ length threads → count ≤ MOST_THREADS → i < length rooms
within threads t i count o rooms homes same live all few =
    let inside = live_within threads t i same live in
    let each = homes.each in
    omega (arith, inside, all, few, each)

pub returns-in_err-room-clause-none : goal.returns-in_err-room-clause-none
returns-in_err-room-clause-none g c _ =
    let live = sym c.is_live.ensures ∙ c.if-not-is_live.false in
    let inside = within c.world.inside.core.threads c.args.thread c.from.result c.started-count.result _ c.world.inside.rooms.items c.world.invariant.homes c.from.ensures live c.started-count.ensures.all c.started-count.ensures.few in
    let there = read_room c.world.inside.rooms.items c.args.thread c.from.result c.index_mut.result.now c.from.ensures inside c.index_mut.ensures.value in
    let nothing = nothing_taken c.world.inside.core c.world.inside.history.entries c.world.inside.book c.world.inside.stopped c.world.inside.rooms.items c.args.thread c.from.result c.index_mut.result.now c.take.new.self c.from.ensures there
    (sym c.take.ensures.value ∙ c.in_err-room.was) c.take.ensures.after in
    (nothing.0 ∙ c.world.view_is, inr (ap (λ (w : WorldState). is_lent_in w.lent c.args.thread) (sym c.world.view_is) ∙ nothing.1))

pub lend-requires-clause-tree : goal.lend-requires-clause-tree
lend-requires-clause-tree g c =
    let live = sym c.is_live.ensures ∙ c.if-not-is_live.false in
    let inside = within c.world.inside.core.threads c.args.thread c.from.result c.started-count.result _ c.world.inside.rooms.items c.world.invariant.homes c.from.ensures live c.started-count.ensures.all c.started-count.ensures.few in
    let there = read_room c.world.inside.rooms.items c.args.thread c.from.result c.index_mut.result.now c.from.ensures inside c.index_mut.ensures.value in
    c.world.invariant.homes.theirs c.args.thread c.in_ok-room.room (there ∙ ap Some (sym c.take.ensures.value ∙ c.in_ok-room.was)) ∙ sym (same_tree _ _ _ _ _ c.world.invariant.sound)

pub invariant_of-result : goal.invariant_of-result
invariant_of-result g c = c.lend.ensures.tree ∙ same_tree _ _ _ _ _ c.world.invariant.sound

pub invariant_of-world-2 : goal.invariant_of-world-2
invariant_of-world-2 g c = record {
  sound = c.world.invariant.sound;
  homes = subst (λ (x : Option Tree). HasRooms _ (slice_set c.world.inside.rooms.items c.from.result x)) (sym c.take.ensures.after) (taken_rooms _ c.world.inside.rooms.items c.from.result c.world.invariant.homes);
  bound = c.world.invariant.bound;
  printed = c.world.invariant.printed;
}

pub returns-clause-some : goal.returns-clause-some
returns-clause-some g c =
    let live = sym c.is_live.ensures ∙ c.if-not-is_live.false in
    let inside = within c.world.inside.core.threads c.args.thread c.from.result c.started-count.result _ c.world.inside.rooms.items c.world.invariant.homes c.from.ensures live c.started-count.ensures.all c.started-count.ensures.few in
    let there = read_room c.world.inside.rooms.items c.args.thread c.from.result c.index_mut.result.now c.from.ensures inside c.index_mut.ensures.value in
    let out = lent_out c.world.inside.core c.world.inside.history.entries c.world.inside.book c.world.inside.stopped c.world.inside.rooms.items c.args.thread c.from.result c.index_mut.result.now c.take.new.self c.in_ok-room.room c.lend.result c.from.ensures there
    (sym c.take.ensures.value ∙ c.in_ok-room.was) c.take.ensures.after live c.lend.ensures in
    subst (λ (w : WorldState). IsLentOut w c.args.thread c.lend.result (shown_as c.world.inside.core c.world.inside.history.entries c.world.inside.book (lent_of (slice_set c.world.inside.rooms.items c.from.result c.take.new.self)) c.world.inside.stopped)) c.world.view_is out

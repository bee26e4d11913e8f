use Rattle.std.proofs.Common.{◌++◌, ◌∙◌, List, replicate, refl, ap}
use Rattle.cil_model.specs.declared.events.Event.TheVariants.{Step}
use Rattle.cil_model.specs.declared.reports.Report.TheVariants.{Ran}
use Rattle.shared_machine.specs.Histories.{entry}
use Rattle.shared_machine.specs.declared.history.Entry.{Entry}
use Rattle.shared_machine.proofs.Bounds.{same_within}
use Rattle.shared_machine.proofs.Lendings.{small_step, sound_times, world_at}
use Rattle.shared_machine.proofs.world.step_locally.Goals as goal

pub invariant_of-world-2 : goal.invariant_of-world-2
invariant_of-world-2 g c =
    let t = c.args.ticket.now in
    let n = c.run_local-count.result in
    world_at _ _ _ _ _ _ _ _ _ _ _ _
    (sound_times _ _ t.worker (Step c.args.thread) Ran (small_step c.args.thread c.ranges.thread.fits) c.run_local-count.new.self n c.world.inside.core c.world.inside.history.entries c.world.inside.book t.count c.world.invariant.sound c.record_steps.ensures.agreed c.run_local-count.ensures.transitions)
    refl
    (c.record_steps.ensures.history ∙ ap (λ (h : List Entry). h ++ replicate n (entry t.worker (Step c.args.thread) Ran)) c.make_room.ensures.entries)
    c.record_steps.ensures.book
    refl
    c.world.invariant.homes
    c.world.invariant.bound
    (same_within _ g.M.Initial.initial_state c.world.inside.core c.run_local-count.new.self c.run_local-count.ensures.printed c.world.invariant.printed)

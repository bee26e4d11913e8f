use Rattle.std.proofs.Common.{Some, refl, sym, ap, ◌∙◌}
use Rattle.std.proofs.lemmas.Option.{same_Some}
use Rattle.cil_model.proofs.Lists.{none_is_some}
use Rattle.simulation.specs.MachineStates.{frame_room}
use Rattle.simulation.specs.Transitions.{live_thread}
use Rattle.simulation.specs.interpreter.Local.{frames_over}
use Rattle.interleaving_core.specs.Views.{machine_state_of}
use Rattle.interleaving_core.proofs.Threads.LiveFrames.{found_there, none_there, runs_frame}
use Rattle.interleaving_core.proofs.engine.Engine.is_at_origin.Goals as goal

pub returns-in-Some : goal.returns-in-Some
returns-in-Some c =
    let loan = c.args.loan.now in
    let there = found_there c.args.self.now.threads.items loan.thread c.thread.result c.thread-2.result c.in-Some.thread c.thread-2.ensures c.thread.ensures c.in-Some.is in (
      λ yes.
          let at = c.is_origin_in.ensures.yes yes in
          runs_frame (machine_state_of c.args.self.now) loan.thread loan.left loan.origin at.0 c.in-Some.thread.now there at.1 at.2 (c.requires.room loan.left at.0 (there ∙ ap Some at.1)),
      λ at.
          c.is_origin_in.ensures.no (frames_over loan.origin at.below at.depth frame_room)
          (same_Some c.in-Some.thread.now (live_thread loan.left (frames_over loan.origin at.below at.depth frame_room)) (sym there ∙ at.there)) refl,
    )

pub returns-in-None : goal.returns-in-None
returns-in-None c =
    let loan = c.args.loan.now in
    let gone = none_there c.args.self.now.threads.items loan.thread c.thread.result c.thread-2.result c.thread-2.ensures c.thread.ensures c.in-None.is in (
      λ yes. absurd (cc),
      λ at. none_is_some (live_thread loan.left (frames_over loan.origin at.below at.depth frame_room)) (sym gone ∙ at.there),
    )

use Rattle.std.proofs.Common.{Option, Some, false, refl, sym, ap, subst, true≢false, ◌∙◌}
use Rattle.std.specs.Option.{option_map_or}
use Rattle.std.proofs.lemmas.Option.{same_Some}
use Rattle.cil_model.proofs.Lists.{none_is_some}
use Rattle.threads_monitors.specs.Frames.{Frames}
use Rattle.threads_monitors.specs.declared.threads.Thread.{Thread}
use Rattle.threads_monitors.specs.Threads.{is_live}
use Rattle.simulation.specs.Transitions.{live_thread}
use Rattle.simulation.specs.interpreter.Local.{IsNextLocal}
use Rattle.interleaving_core.proofs.Threads.LiveFrames.{found_there, none_there}
use Rattle.interleaving_core.proofs.Threads.HalfSteps.{same_frames, thread_is}
use Rattle.interleaving_core.proofs.engine.Engine.is_next_local.Goals as goal

pub is_next_local-requires : goal.is_next_local-requires
is_next_local-requires c =
    let there = found_there c.args.self.now.threads.items c.args.thread c.args.thread c.thread.result c.in-Some.theirs c.thread.ensures refl c.in-Some.is in
    c.requires c.in-Some.theirs.now.steps_left c.in-Live.frames (there ∙ ap Some (thread_is c.in-Some.theirs.now c.in-Live.frames c.in-Live.is))

pub returns-in-Live-clause-live : goal.returns-in-Live-clause-live
returns-in-Live-clause-live c = λ left m is.
    let there = found_there c.args.self.now.threads.items c.args.thread c.args.thread c.thread.result c.in-Some.theirs c.thread.ensures refl c.in-Some.is in
    let theirs = thread_is c.in-Some.theirs.now c.in-Live.frames c.in-Live.is in
    let same = same_frames c.in-Some.theirs.now.steps_left left c.in-Live.frames m (sym theirs ∙ same_Some c.in-Some.theirs.now (live_thread left m) (sym there ∙ is)) in
    subst (λ (x : Frames). IsNextLocal c.args.self.now.program x.room x.running c.is_next_local.result) same c.is_next_local.ensures

pub returns-in-Ended-clause-live : goal.returns-in-Ended-clause-live
returns-in-Ended-clause-live c = λ left m is.
    let there = found_there c.args.self.now.threads.items c.args.thread c.args.thread c.thread.result c.in-Some.theirs c.thread.ensures refl c.in-Some.is in
    let live = ap (λ (x : Thread). x.thread_status) (same_Some c.in-Some.theirs.now (live_thread left m) (sym there ∙ is)) in
    let ended = c.in-Ended.is in
    absurd (cc (live, ended))

pub returns-in-None-clause-live : goal.returns-in-None-clause-live
returns-in-None-clause-live c = λ left m is.
    none_is_some (live_thread left m) (sym (none_there c.args.self.now.threads.items c.args.thread c.args.thread c.thread.result c.thread.ensures refl c.in-None.is) ∙ is)

pub returns-in-Live-clause-others : goal.returns-in-Live-clause-others
returns-in-Live-clause-others c = λ none.
    let there = found_there c.args.self.now.threads.items c.args.thread c.args.thread c.thread.result c.in-Some.theirs c.thread.ensures refl c.in-Some.is in
    let theirs = thread_is c.in-Some.theirs.now c.in-Live.frames c.in-Live.is in
    absurd (true≢false (sym (ap (λ (x : Option Thread). option_map_or is_live x false) (there ∙ ap Some theirs)) ∙ none))

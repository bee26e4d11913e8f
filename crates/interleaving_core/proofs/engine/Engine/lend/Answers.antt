use Rattle.std.proofs.Common.{Some, refl, sym, ap, subst, false, ◌∙◌}
use Rattle.std.specs.Option.{option_map_or}
use Rattle.cil_model.specs.declared.trees.Tree.{Tree}
use Rattle.threads_monitors.specs.Threads.{is_live}
use Rattle.threads_monitors.specs.declared.threads.ThreadStatus.{ThreadStatus}
use Rattle.interleaving_core.specs.Loans.{Begins, CanContinueLocally}
use Rattle.interleaving_core.specs.Views.{machine_state_of}
use Rattle.interleaving_core.proofs.Threads.LiveFrames.{found_there, runs_frame}
use Rattle.interleaving_core.proofs.Threads.HalfSteps.{thread_is}
use Rattle.interleaving_core.proofs.engine.Engine.lend.Goals as goal

pub fill-requires-clause-room : goal.fill-requires-clause-room
fill-requires-clause-room c =
    let there = found_there c.args.self.now.threads.items c.args.thread c.args.thread c.thread.result c.in-Some.theirs c.thread.ensures refl c.in-Some.is in
    (c.requires.ready c.in-Some.theirs.now.steps_left c.in-Live.frames (there ∙ ap Some (thread_is c.in-Some.theirs.now c.in-Live.frames c.in-Live.is))).0

pub fill-requires-clause-some : goal.fill-requires-clause-some
fill-requires-clause-some c =
    let there = found_there c.args.self.now.threads.items c.args.thread c.args.thread c.thread.result c.in-Some.theirs c.thread.ensures refl c.in-Some.is in
    (c.requires.ready c.in-Some.theirs.now.steps_left c.in-Live.frames (there ∙ ap Some (thread_is c.in-Some.theirs.now c.in-Live.frames c.in-Live.is))).1

pub fill-requires-clause-ready : goal.fill-requires-clause-ready
fill-requires-clause-ready c =
    let there = found_there c.args.self.now.threads.items c.args.thread c.args.thread c.thread.result c.in-Some.theirs c.thread.ensures refl c.in-Some.is in
    let ready = c.requires.ready c.in-Some.theirs.now.steps_left c.in-Live.frames (there ∙ ap Some (thread_is c.in-Some.theirs.now c.in-Live.frames c.in-Live.is)) in
    subst (λ (tree : Tree). CanContinueLocally tree c.in-Some.theirs.now.steps_left c.in-Live.frames.running) (sym c.requires.tree) ready.2

pub unreachable-requires-in-Ended : goal.unreachable-requires-in-Ended
unreachable-requires-in-Ended c =
    let there = found_there c.args.self.now.threads.items c.args.thread c.args.thread c.thread.result c.in-Some.theirs c.thread.ensures refl c.in-Some.is in
    let live = sym (ap (λ o. option_map_or is_live o false) there) ∙ c.requires.live in
    let ended = ap (λ (s : ThreadStatus). is_live (record c.in-Some.theirs.now { thread_status = s })) c.in-Ended.is in
    absurd (cc (live, ended))

pub returns : goal.returns
returns c =
    let there = found_there c.args.self.now.threads.items c.args.thread c.args.thread c.thread.result c.in-Some.theirs c.thread.ensures refl c.in-Some.is in
    let is = thread_is c.in-Some.theirs.now c.in-Live.frames c.in-Live.is in
    let ready = c.requires.ready c.in-Some.theirs.now.steps_left c.in-Live.frames (there ∙ ap Some is) in
    subst (Begins (machine_state_of c.args.self.now) c.args.thread) (sym c.fill.ensures)
    (record {
      tree = c.requires.tree;
      thread = refl;
      done = refl;
      frame = refl;
      origin = runs_frame (machine_state_of c.args.self.now) c.args.thread c.in-Some.theirs.now.steps_left c.in-Live.frames.running c.in-Live.frames c.in-Some.theirs.now there is refl ready.0;
    })

use Rattle.std.proofs.Common.{◌≤◌, ℕ, false, map, sym, ◌∙◌, subst, arith}
use Rattle.exploration.proofs.Names.{MOST_THREADS, AreEntries, events_of}
use Rattle.exploration.proofs.CheckedSteps.{ended, noted}
use Rattle.exploration.proofs.checking.note_ended.Goals as goal

pub loop-thread-preserved : goal.loop-thread-preserved
loop-thread-preserved g c =
    let first = g.M.First.first in
    let paths = map events_of c.args.paths.now in
    let few = subst (λ (n : ℕ). n ≤ MOST_THREADS) c.started-started.ensures.all c.started-started.ensures.few in
    subst (AreEntries first paths) (sym c.note.ensures)
    (noted first paths c.loop-thread.entries.items c.loop-thread.invariant c.args.path_index c.loop-thread.thread (omega arith) false
    (ended first paths c.args.path_index c.loop-thread.thread c.args.other.now c.requires.there few (sym c.is_live.ensures ∙ c.if-is_live.false)))

use Rattle.std.proofs.Common.{◌≡◌, ◌∙◌, add-one, arith, map, subst, sym}
use Rattle.std.specs.Prelude.{replicate}
use Rattle.end_explanations.specs.Replays.{AreReplayed, pair_of}
use Rattle.end_explanations.proofs.ReplayLaws.{replayed_again}
use Rattle.end_explanations.proofs.replaying.replay_run.Goals as goal

pub loop-time-preserved : goal.loop-time-preserved
loop-time-preserved c =
    let before = c.loop-time.invariant in
    let run = c.args.run.now in
    let time = c.loop-time._time in
    let again = replayed_again c.args.names.now.lines time run.entry c.args.machine.now c.args.progress.now c.loop-time.machine c.loop-time.progress c.replay_event.new.machine c.replay_event.new.progress before.replayed c.in_ok-replay_event.ensures.replayed in
    record {
      replayed = subst (λ n. AreReplayed c.args.names.now.lines c.args.machine.now c.args.progress.now (map pair_of (replicate n run.entry)) c.replay_event.new.machine c.replay_event.new.progress) (sym (add-one time)) again;
      program = c.in_ok-replay_event.ensures.same.0 ∙ before.program;
      limits = c.in_ok-replay_event.ensures.same.1 ∙ before.limits;
    }

pub returns-clause-replayed : goal.returns-clause-replayed
returns-clause-replayed c =
    let run = c.args.run.now in
    let all : c.loop-time._time ≡ run.times = omega (arith, c.loop-time-test.false, c.loop-time.auto._time-end) in
    subst (λ n. AreReplayed c.args.names.now.lines c.args.machine.now c.args.progress.now (map pair_of (replicate n run.entry)) c.loop-time.machine c.loop-time.progress) all c.loop-time.invariant.replayed

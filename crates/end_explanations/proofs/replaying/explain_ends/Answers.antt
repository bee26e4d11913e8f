use Rattle.std.proofs.Common.{◌≡◌, ◌≤◌, ◌∙◌, ap, length, map, refl, subst, sym}
use Rattle.std.proofs.lemmas.List.{take_all}
use Rattle.event_trace.specs.MethodPositions.{ArePositionsOf}
use Rattle.std.specs.List.{zip}
use Rattle.shared_machine.specs.Histories.{events_of, plain, reports_of}
use Rattle.end_explanations.specs.Replays.{AreReplayed, initial_replay, pair_of}
use Rattle.end_explanations.proofs.ReplayLaws.{pairs_zipped, replayed_run}
use Rattle.end_explanations.proofs.replaying.explain_ends.Goals as goal

pub loop-run-preserved : goal.loop-run-preserved
loop-run-preserved c =
    let before = c.loop-run.invariant in
    let done = c.in_ok-replay_run.ensures in
    record {
      replayed = replayed_run c.in_ok-names.names.lines c.runs-runs.result.now c.loop-run.run-index _ c.args.machine.now initial_replay c.loop-run.machine c.loop-run.progress c.replay_run.new.machine c.replay_run.new.progress c.loop-run-test.true before.replayed done.replayed;
      positions = subst (λ tree. ArePositionsOf tree c.in_ok-names.names.methods) (sym done.same.0) before.positions;
      limits = done.same.1 ∙ before.limits;
    }

pub returns : goal.returns
returns c =
    let runs = c.runs-runs.result.now in
    let past : length runs ≤ c.loop-run.run-index = c.loop-run-test.false in
    let all = ap (λ (rs : _). map pair_of (plain rs)) (take_all c.loop-run.run-index runs past) ∙ ap (map pair_of) c.runs-runs.ensures ∙ pairs_zipped c.args.history.now.entries in (
      c.loop-run.machine,
      c.loop-run.progress,
      subst (λ source. AreReplayed source c.args.machine.now initial_replay (zip (events_of c.args.history.now.entries) (reports_of c.args.history.now.entries)) c.loop-run.machine c.loop-run.progress) c.in_ok-names.ensures.lines
          (subst (λ es. AreReplayed c.in_ok-names.names.lines c.args.machine.now initial_replay es c.loop-run.machine c.loop-run.progress) all c.loop-run.invariant.replayed),
      c.into_text.ensures,
    )

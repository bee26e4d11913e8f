use Rattle.std.proofs.Common.{◌≤◌, ◌+◌, ◌∙◌, ap, length, subst, sym, take}
use Rattle.std.proofs.lemmas.List.{take_all}
use Rattle.shared_machine.specs.Histories.{plain}
use Rattle.run_statistics.specs.MostWords.{IsMostInUse}
use Rattle.run_statistics.proofs.MostLemmas.{most_more, pairs_of}
use Rattle.run_statistics.proofs.most.most_words.Goals as goal

pub loop-run-preserved : goal.loop-run-preserved
loop-run-preserved c =
    let runs = c.runs-runs.result.now in
    subst (IsMostInUse c.args.machine.now (pairs_of (plain (take (c.loop-run.run-index + 1) runs))) c.most_words_of_run.new.machine) (sym c.max-most.ensures)
    (most_more runs c.loop-run.run-index _ c.args.machine.now c.loop-run.machine c.most_words_of_run.new.machine c.loop-run.most _ c.loop-run-test.true c.loop-run.invariant c.in_ok-most_words_of_run.ensures)

pub returns : goal.returns
returns c =
    let runs = c.runs-runs.result.now in
    let past : length runs ≤ c.loop-run.run-index = c.loop-run-test.false in
    subst (λ es. IsMostInUse c.args.machine.now es c.loop-run.machine c.loop-run.most) (ap (λ rs. pairs_of (plain rs)) (take_all c.loop-run.run-index runs past) ∙ ap pairs_of c.runs-runs.ensures)
    c.loop-run.invariant

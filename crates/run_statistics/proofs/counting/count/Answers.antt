use Rattle.std.proofs.Common.{◌∙◌, ◌+◌, ◌≤◌, ap, arith, length, sym}
use Rattle.std.proofs.lemmas.List.{take_all}
use Rattle.shared_machine.specs.Histories.{plain}
use Rattle.run_statistics.proofs.CountLemmas.{capped, counted, counted_pairs, more_no, more_yes}
use Rattle.run_statistics.proofs.counting.count.Goals as goal
use Rattle.run_statistics.proofs.counting.count.Goals.{then-includes, else-includes}

pub loop-run-preserved : goal.loop-run-preserved
loop-run-preserved c =
    let runs = c.runs-runs.result.now in
    let q = c.args.quantity in
    elim c.if-includes.branch [
      | then-includes w ↦
          more_yes q runs c.loop-run.run-index _ c.loop-run.number c.if-includes.number c.loop-run-test.true (sym c.includes.ensures ∙ w.if-includes.true) c.loop-run.invariant (w.number-is ∙ w.saturating_add-number.ensures ∙ ap (λ k. capped (c.loop-run.number + k)) w.from.ensures)
      | else-includes w ↦
          w.number-is ∙ more_no q runs c.loop-run.run-index _ c.loop-run.number c.loop-run-test.true (sym c.includes.ensures ∙ w.if-includes.false) c.loop-run.invariant
    ]

pub returns : goal.returns
returns c =
    let runs = c.runs-runs.result.now in
    let q = c.args.quantity in
    let past : length runs ≤ c.loop-run.run-index = omega (arith, c.loop-run-test.false) in
    c.loop-run.invariant ∙ ap (λ rs. capped (counted q (plain rs))) (take_all c.loop-run.run-index runs past) ∙ ap (λ h. capped (counted q h)) c.runs-runs.ensures
    ∙ ap capped (sym (counted_pairs q c.args.history.now.entries))

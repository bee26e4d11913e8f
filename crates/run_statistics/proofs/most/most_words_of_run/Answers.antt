use Rattle.std.proofs.Common.{◌≡◌, ◌∙◌, ◌+◌, add-one, ap, arith, max, subst, sym}
use Rattle.std.specs.List.{zip}
use Rattle.std.specs.Prelude.{replicate}
use Rattle.run_statistics.specs.Lines.{words_in_use}
use Rattle.run_statistics.specs.MostWords.{IsMostInUse}
use Rattle.run_statistics.proofs.MostLemmas.{most_again}
use Rattle.run_statistics.proofs.most.most_words_of_run.Goals as goal

pub loop-time-preserved : goal.loop-time-preserved
loop-time-preserved c =
    let run = c.args.run.now in
    let time = c.loop-time._time in
    let begins = c.args.machine.now in
    let after = c.words_after.new.machine in
    let (transition, words) = c.in_ok-words_after.ensures in
    let again = most_again time run.entry.event run.entry.report begins c.loop-time.machine after c.loop-time.most c.loop-time.invariant transition in
    subst (IsMostInUse begins (zip (replicate (time + 1) run.entry.event) (replicate (time + 1) run.entry.report)) after) (sym (c.max-most.ensures ∙ ap (max c.loop-time.most) words))
    (subst (λ n. IsMostInUse begins (zip (replicate n run.entry.event) (replicate n run.entry.report)) after (max c.loop-time.most (words_in_use after))) (sym (add-one time)) again)

pub returns : goal.returns
returns c =
    let run = c.args.run.now in
    let all : c.loop-time._time ≡ run.times = omega (arith, c.loop-time-test.false, c.loop-time.auto._time-end) in
    subst (λ n. IsMostInUse c.args.machine.now (zip (replicate n run.entry.event) (replicate n run.entry.report)) c.loop-time.machine c.loop-time.most) all c.loop-time.invariant

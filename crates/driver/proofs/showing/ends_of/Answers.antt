use Rattle.std.proofs.Common.{[], ap, arith, map, sym, take, ◌+◌, ◌++◌, ◌<◌, ◌≤◌, ◌∙◌, ◌∷◌, add-one, length, subst}
use Rattle.source_runs.proofs.interleaving_core.Threads.Ends.{ends_more}
use Rattle.driver.proofs.Names.{length-map, take_all, end_of}
use Rattle.driver.proofs.showing.ends_of.Goals as goal

pub loop-thread-preserved : goal.loop-thread-preserved
loop-thread-preserved c =
    let threads = c.args.machine.now.threads in
    let thread = c.loop-thread.thread in
    let below : thread < length threads = subst (λ n. thread < n) c.started-thread-end.ensures.all c.loop-thread-test.true in (
      c.push.ensures.items ∙ ap (λ es. es ++ c.end_of.result ∷ []) c.loop-thread.invariant.0 ∙ ap (λ e. take thread (map end_of threads) ++ e ∷ []) c.end_of.ensures ∙ ends_more threads thread below
          ∙ ap (λ n. take n (map end_of threads)) (sym (add-one thread)),
      c.push.ensures.len ∙ ap (λ n. n + 1) c.loop-thread.invariant.1,
    )

pub returns : goal.returns
returns c =
    let threads = c.args.machine.now.threads in
    let past : length (map end_of threads) ≤ c.loop-thread.thread = omega (arith, length-map threads end_of, c.started-thread-end.ensures.all, c.loop-thread-test.false) in
    c.loop-thread.invariant.0 ∙ take_all c.loop-thread.thread (map end_of threads) past

use Rattle.std.proofs.Common.{[], ap, arith, map, sym, take, ◌++◌, ◌<◌, ◌≤◌, ◌∙◌, ◌∷◌, add-one, length, subst}
use Rattle.std.proofs.lemmas.List.{length-map, take_all}
use Rattle.std.proofs.lemmas.Result.{IfOk-from_err}
use Rattle.threads_monitors.specs.Threads.{end_of}
use Rattle.interleaving_core.proofs.Threads.Ends.{ends_more}
use Rattle.interleaving_core.proofs.machine.Machine.ends.Goals as goal

pub loop-thread-preserved : goal.loop-thread-preserved
loop-thread-preserved c =
    let threads = c.args.self.now.threads in
    let thread = c.loop-thread.thread in
    let below : thread < length threads = subst (λ n. thread < n) c.started-thread-end.ensures.all c.loop-thread-test.true in
    c.in_ok-push.ensures.items ∙ ap (λ es. es ++ c.end_of.result ∷ []) c.loop-thread.invariant ∙ ap (λ e. take thread (map end_of threads) ++ e ∷ []) c.end_of.ensures ∙ ends_more threads thread below
    ∙ ap (λ n. take n (map end_of threads)) (sym (add-one thread))

pub returns-in_err-push : goal.returns-in_err-push
returns-in_err-push c = IfOk-from_err c.from_residual.result _ c.from_residual.ensures.0

pub returns : goal.returns
returns c =
    let threads = c.args.self.now.threads in
    let past : length (map end_of threads) ≤ c.loop-thread.thread = omega (arith, length-map threads end_of, c.started-thread-end.ensures.all, c.loop-thread-test.false) in
    c.loop-thread.invariant ∙ take_all c.loop-thread.thread (map end_of threads) past

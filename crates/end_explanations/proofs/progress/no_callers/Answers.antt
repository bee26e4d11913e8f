use Rattle.std.proofs.Common.{◌≡◌, ◌∷◌, ◌++◌, ◌∙◌, [], ap, arith, replicate}
use Rattle.std.proofs.lemmas.List.{replicate_more}
use Rattle.cil_model.specs.declared.limits.TheConstants.{MOST_THREADS}
use Rattle.end_explanations.proofs.progress.no_callers.Goals as goal

pub loop-thread-preserved : goal.loop-thread-preserved
loop-thread-preserved c =
    c.in_ok-push.ensures.items ∙ ap (λ l. l ++ c.new.result ∷ []) c.loop-thread.invariant ∙ ap (λ x. replicate c.loop-thread._thread [] ++ x ∷ []) c.new.ensures ∙ replicate_more c.loop-thread._thread []

pub returns : goal.returns
returns c =
    let all : c.loop-thread._thread ≡ MOST_THREADS = omega (arith, c.loop-thread-test.false, c.loop-thread.auto._thread-end) in
    c.loop-thread.invariant ∙ ap (λ n. replicate n []) all

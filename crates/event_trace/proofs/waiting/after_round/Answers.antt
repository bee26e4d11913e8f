use Rattle.std.proofs.Common.{◌≡◌, ◌<◌, ◌+◌, ◌&&◌, ◌∷◌, [], ◌++◌, Bool, length, take, sym, ap, ◌∙◌, add-one, arith}
use Rattle.event_trace.proofs.Names.{is_in, restrict, stays}
use Rattle.event_trace.proofs.RoundLaws.{restrict_more}
use Rattle.event_trace.proofs.waiting.after_round.Goals as goal

pub loop-thread-preserved : goal.loop-thread-preserved
loop-thread-preserved c =
    let set = c.args.set.now in
    let thread = c.loop-thread.thread in
    let test = stays c.args.machine.now set in
    let all = c.started-thread-end.ensures.all in
    let below : thread < length set = omega (arith, c.loop-thread-test.true, all, c.requires) in
    let from_zero : thread ≡ 0 + thread = omega arith in
    c.in_ok-push.ensures.items
    ∙ ap (λ items. items ++ c.is_kept.result ∷ []) c.loop-thread.invariant
    ∙ ap (λ (b : Bool). restrict test 0 (take thread set) ++ b ∷ []) (c.is_kept.ensures ∙ ap (λ n. is_in set thread && test n) from_zero)
    ∙ restrict_more test 0 thread set below
    ∙ ap (λ n. restrict test 0 (take n set)) (sym (add-one thread))

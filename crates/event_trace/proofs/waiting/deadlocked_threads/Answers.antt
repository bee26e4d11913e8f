use Rattle.std.proofs.Common.{rules, ◌+◌, true, replicate, sym, ap, subst, ◌∙◌, arith}
use Rattle.event_trace.proofs.Names.{after_round}
use Rattle.event_trace.proofs.Greatest.{RoundsSoFar, one_round_more, rounds_begun, rounds_done}
use Rattle.event_trace.proofs.waiting.deadlocked_threads.Goals as goal

pub loop-round-init : goal.loop-round-init
loop-round-init c = rounds_begun c.args.machine.now c.in_ok-set.set.items (c.in_ok-set.ensures.items_if_clones_equal (search rules) ∙ ap (λ n. replicate n true) c.started-threads.ensures.all)

pub loop-round-preserved : goal.loop-round-preserved
loop-round-preserved c =
    subst (RoundsSoFar c.args.machine.now (c.loop-round._round + 1)) (sym (c.in_ok-set-2.ensures ∙ ap (after_round c.args.machine.now) c.as_slice.ensures.value))
    (one_round_more c.args.machine.now c.loop-round._round c.loop-round.set.items c.loop-round.invariant)

pub returns : goal.returns
returns c = rounds_done c.args.machine.now c.loop-round._round c.loop-round.set.items (omega (arith, c.started-threads.ensures.all, c.loop-round-test.false)) c.loop-round.invariant

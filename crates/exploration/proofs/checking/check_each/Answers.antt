use Rattle.std.proofs.Common.{◌≡◌, Some, map, subst, slice_get, arith}
use Rattle.exploration.proofs.Names.{ℕ_discrete, dite, events_of}
use Rattle.exploration.proofs.checking.check_each.Goals as goal

pub loop-path_index-preserved : goal.loop-path_index-preserved
loop-path_index-preserved g c = λ n below events at. dite (ℕ_discrete n c.loop-path_index.path_index)
    (λ same.
    let here = subst (λ k. slice_get (map events_of c.args.paths.now) k ≡ Some events) same at in
    (c.in_ok-is_checked.ensures.closed c.if-not-is_checked.false events here, c.in_ok-is_checked.ensures.shown c.if-not-is_checked.false events here))
    (λ other. c.loop-path_index.invariant n (omega arith) events at)

pub returns : goal.returns
returns g c = λ yes n below events at. let past = c.loop-path_index-test.false in c.loop-path_index.invariant n (omega (arith, below, past)) events at

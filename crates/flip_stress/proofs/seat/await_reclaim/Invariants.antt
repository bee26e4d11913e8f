use Rattle.flip_stress.specs.Stress.{IsSameSeat}
use Rattle.flip_stress.proofs.seat.await_reclaim.Given as goal

abbrev pub invariant-loop-transition : goal.invariant-loop-transition
invariant-loop-transition l = IsSameSeat l.initial.writer l.writer

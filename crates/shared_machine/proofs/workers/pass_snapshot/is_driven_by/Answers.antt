use Rattle.std.proofs.Common.{nat_eq, ap, sym}
use Rattle.std.proofs.Math.Nat.{mod-eq_of_lt}
use Rattle.shared_machine.proofs.workers.pass_snapshot.is_driven_by.Goals as goal

pub returns-then-thread-workers : goal.returns-then-thread-workers
returns-then-thread-workers c = ap (λ k. nat_eq k c.args.worker) (sym (mod-eq_of_lt c.if-thread-workers.true))

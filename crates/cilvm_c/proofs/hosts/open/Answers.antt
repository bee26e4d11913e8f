use Rattle.std.proofs.Common.{subst}
use Rattle.cilvm_c.specs.InitialStates.{IsInitial}
use Rattle.cilvm_c.proofs.hosts.open.Goals as goal

pub returns : goal.returns
returns c = subst (λ l. IsInitial c.args.source.now l c.args.limits.now.printed c.open.result c.open.new.self) c.run_limits.ensures c.open.ensures

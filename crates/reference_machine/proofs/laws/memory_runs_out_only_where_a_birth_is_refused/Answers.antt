use Rattle.reference_machine.proofs.Runs.OutOfMemory.{memory_is_refused}
use Rattle.reference_machine.proofs.laws.memory_runs_out_only_where_a_birth_is_refused.Goals as goal

pub returns : goal.returns
returns c = memory_is_refused

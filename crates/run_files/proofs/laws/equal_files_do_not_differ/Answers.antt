use Rattle.run_files.proofs.RunFileLemmas.{no_difference}
use Rattle.run_files.proofs.laws.equal_files_do_not_differ.Goals as goal

pub returns : goal.returns
returns c one other workers = no_difference one other workers

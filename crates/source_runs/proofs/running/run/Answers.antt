use Rattle.std.proofs.Common.{[]}
use Rattle.acceptance.proofs.SourceLemmas.{if_ok}
use Rattle.source_runs.proofs.RunLemmas.{printed_up_to}
use Rattle.source_runs.proofs.running.run.Goals as goal

pub returns-clause-ran : goal.returns-clause-ran
returns-clause-ran g c = λ tree limits done. if_ok c.run_alone.result c.run_alone.ensures.ran (λ outcome ran. ran.does tree limits [] [] done)

pub returns-clause-printed : goal.returns-clause-printed
returns-clause-printed g c = λ tree limits begins. if_ok c.run_alone.result c.run_alone.ensures.printed (λ outcome printed. printed_up_to tree limits c.args.most_printed _ _ begins printed)

use Rattle.std.proofs.Common.{[]}
use Rattle.source_runs.proofs.RunLemmas.{printed_up_to}
use Rattle.source_runs.proofs.threads.run.Goals as goal

pub returns-clause-ran : goal.returns-clause-ran
returns-clause-ran g c = c.in_ok-run_together.ensures.ran.does c.args.program c.args.limits [] [] c.in_ok-machine.ensures.done

pub returns-clause-printed : goal.returns-clause-printed
returns-clause-printed g c = printed_up_to c.args.program c.args.limits c.args.most_printed _ _ c.in_ok-machine.ensures.begins c.in_ok-run_together.ensures.printed

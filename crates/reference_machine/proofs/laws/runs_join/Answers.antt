use Rattle.reference_machine.proofs.Runs.JoinedRuns.{runs_on, sticks_on, stays_stuck}
use Rattle.reference_machine.proofs.laws.runs_join.Goals as goal

pub returns-clause-both : goal.returns-clause-both
returns-clause-both c = runs_on

pub returns-clause-second_sticks : goal.returns-clause-second_sticks
returns-clause-second_sticks c = sticks_on

pub returns-clause-first_sticks : goal.returns-clause-first_sticks
returns-clause-first_sticks c = stays_stuck

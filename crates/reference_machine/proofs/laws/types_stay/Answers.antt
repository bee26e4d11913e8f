use Rattle.reference_machine.proofs.Runs.JoinedRuns.{type_stays, class_stays}
use Rattle.reference_machine.proofs.laws.types_stay.Goals as goal

pub returns-clause-types : goal.returns-clause-types
returns-clause-types c = type_stays

pub returns-clause-classes : goal.returns-clause-classes
returns-clause-classes c = class_stays

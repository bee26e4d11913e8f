use Rattle.resolved_code.proofs.LegalPrograms.Limits.{static_fields_few}
use Rattle.simulation.proofs.ProgramSizes.ClassesAndFields.{slots_few, instance_slot_small, static_slot_small}
use Rattle.simulation.proofs.sizes.fields_are_few.Goals as goal

pub returns-clause-slots : goal.returns-clause-slots
returns-clause-slots c = slots_few

pub returns-clause-instance : goal.returns-clause-instance
returns-clause-instance c = instance_slot_small

pub returns-clause-statics : goal.returns-clause-statics
returns-clause-statics c = static_slot_small

pub returns-clause-static_count : goal.returns-clause-static_count
returns-clause-static_count c = static_fields_few

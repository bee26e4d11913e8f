use Rattle.class_layout.proofs.ApartLaws.{field_has_slot, slots_apart, type_at_slot, reference_at_slot}
use Rattle.class_layout.proofs.laws.slots_are_apart.Goals as goal

pub returns-clause-indices : goal.returns-clause-indices
returns-clause-indices c = field_has_slot

pub returns-clause-apart : goal.returns-clause-apart
returns-clause-apart c = slots_apart

pub returns-clause-types : goal.returns-clause-types
returns-clause-types c = type_at_slot

pub returns-clause-references : goal.returns-clause-references
returns-clause-references c = reference_at_slot

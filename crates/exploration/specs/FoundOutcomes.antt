-- Outcomes that a search found (this profile).
use Rattle.std.specs.Prelude.{Bool, true, false, Option, Some, is_none}
use Rattle.std.specs.List.{list_any}
use Rattle.interleaving_core.specs.simulation.cil_model.declared.reports.End.{End}
use Rattle.interleaving_core.specs.simulation.cil_model.declared.reports.End.TheVariants.{Fault}
use Rattle.exploration.specs.declared.found_outcomes.FoundOutcome.{FoundOutcome}

-- a thread ended by a fault
abbrev pub is_fault : Option End → Bool
is_fault (Some (Fault fault)) = true
is_fault _ = false

-- some thread ended by a fault
abbrev pub has_fault : FoundOutcome → Bool
has_fault found = list_any is_fault found.ends.items

-- some thread is blocked: it has no end
abbrev pub has_deadlock : FoundOutcome → Bool
has_deadlock found = list_any is_none found.ends.items

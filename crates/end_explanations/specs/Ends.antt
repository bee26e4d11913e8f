-- What is printed of a thread that a fault or its budget ended (this profile).
use Rattle.std.specs.Prelude.{◌++◌, ◌-◌, ◌∷◌, [], ℕ, zero, suc, if◌then◌else◌, List, length, min, nat_lt, Option, Some, None, codes, decimal, option_and_then, option_map, slice_get}
use Rattle.std.specs.Option.{option_map_or}
use Rattle.cil_model.specs.ExceptionNames.{name_of}
use Rattle.cil_model.specs.declared.events.Event.{Event}
use Rattle.cil_model.specs.declared.events.Event.TheVariants.{Step, Ack, Gc}
use Rattle.cil_model.specs.declared.reports.End.TheVariants.{Done, Budget, Fault}
use Rattle.cil_model.specs.declared.reports.Report.{Report}
use Rattle.cil_model.specs.declared.reports.Report.TheVariants.{Ended}
use Rattle.cil_model.specs.declared.trees.Method.{Method}
use Rattle.cil_model.specs.declared.types.ClassName.{ClassName}
use Rattle.event_trace.specs.interleaving_core.simulation.MachineStates.{MachineState}
use Rattle.event_trace.specs.interleaving_core.Positions.{position_at}
use Rattle.event_trace.specs.interleaving_core.Waits.{wait_at}
use Rattle.event_trace.specs.interleaving_core.declared.positions.Position.{Position}
use Rattle.event_trace.specs.Columns.{found_at}
use Rattle.event_trace.specs.Texts.{wait_text}
use Rattle.end_explanations.specs.Locations.{line_of, located_text}
use Rattle.end_explanations.specs.declared.ends.Cause.{Cause}
use Rattle.end_explanations.specs.declared.ends.Cause.TheVariants.{Budget as BudgetCause, Fault as FaultCause}
use Rattle.end_explanations.specs.declared.ends.EarlyEnd.{EarlyEnd}
use Rattle.end_explanations.specs.declared.texts.TheConstants.{MOST_CALLERS}

-- ---- which threads end early

-- why a report ends a thread, whose budget has the given number of steps, before its first method returns
abbrev pub cause : ℕ → Report → Option Cause
cause budget (Ended Budget) = Some (BudgetCause budget)
cause budget (Ended (Fault fault)) = Some (FaultCause fault)
cause budget _ = None

-- the thread that an event with this report ends like that
abbrev pub early_end : ℕ → Event → Report → Option EarlyEnd
early_end budget (Step t) r = option_map (λ (why : Cause). record { thread = t; cause = why }) (cause budget r)
early_end budget (Ack t) r = None
early_end budget Gc r = None

-- ---- the text

abbrev pub cause_text : Cause → List ℕ
cause_text (BudgetCause steps) = codes "budget after " ++ decimal steps ++ codes " steps (--budget allows 1000000)"
cause_text (FaultCause fault) = name_of fault

-- why a thread ended, where it was, by its position and its line, and what it waited for
abbrev pub end_lines : ℕ → Cause → Option ((ClassName × Method) × ℕ) → Option ℕ → Option (List ℕ) → List ℕ
end_lines t why at line None = codes "thread " ++ decimal t ++ codes ": " ++ cause_text why ++ 10 ∷ codes "  at " ++ located_text at line ++ 10 ∷ []
end_lines t why at line (Some awaited) =
    codes "thread " ++ decimal t ++ codes ": " ++ cause_text why ++ 10 ∷ codes "  at " ++ located_text at line ++ codes ", waits for " ++ awaited ++ 10 ∷ []

-- the same, of the machine state before the thread's last step, for a program with this source
abbrev pub end_text : List ℕ → MachineState → EarlyEnd → List ℕ
end_text source c e =
    let at = position_at c.tree c.threads e.thread in
    end_lines e.thread e.cause (option_and_then (found_at c.tree) at) (option_and_then (line_of source) at) (option_map (wait_text c) (wait_at c e.thread))

-- the line of a caller
abbrev pub caller_text : List ℕ → MachineState → Position → List ℕ
caller_text source c p = codes "  called from " ++ located_text (found_at c.tree p) (line_of source p) ++ 10 ∷ []

-- the lines of the n innermost callers, of which the innermost is the first
abbrev pub caller_lines : List ℕ → MachineState → List Position → ℕ → List ℕ
caller_lines source c callers zero = []
caller_lines source c callers (suc n) = caller_lines source c callers n ++ option_map_or (caller_text source c) (slice_get callers (length callers - 1 - n)) []

-- how many more callers there are
abbrev pub more_text : ℕ → List ℕ
more_text n = if nat_lt 0 n then codes "  and " ++ decimal n ++ codes " more callers" ++ 10 ∷ [] else []

-- the innermost callers, and how many more there are
abbrev pub callers_text : List ℕ → MachineState → List Position → List ℕ
callers_text source c callers = caller_lines source c callers (min (length callers) MOST_CALLERS) ++ more_text (length callers - MOST_CALLERS)

-- The last line of an exploration (this profile).
use Rattle.std.specs.Fmt.{decimal}
use Rattle.std.specs.Prelude.{◌++◌, ◌∷◌, [], ℕ, List, codes}
use Rattle.outcome_text.specs.Outcomes.{count_text}
use Rattle.outcome_text.specs.declared.summaries.Cause.{Cause}
use Rattle.outcome_text.specs.declared.summaries.Cause.TheVariants.{States, Budget, Memory, Fault, Deadlock, Output, Unconfirmed}
use Rattle.outcome_text.specs.declared.summaries.Coverage.{Coverage}
use Rattle.outcome_text.specs.declared.summaries.Coverage.TheVariants.{AllSchedules, FewPreemptions, Stopped}
use Rattle.outcome_text.specs.declared.summaries.Summary.{Summary}

-- why an exploration stopped
abbrev pub cause_text : Cause → List ℕ
cause_text States = codes "the limit of --states"
cause_text (Budget thread) = codes "thread " ++ decimal thread ++ codes " used up its budget"
cause_text (Memory thread) = codes "thread " ++ decimal thread ++ codes " was refused memory"
cause_text Fault = codes "fault"
cause_text Deadlock = codes "deadlock"
cause_text Output = codes "output"
cause_text Unconfirmed = codes "the check failed"

-- how much was explored: all schedules only where no outcome is missing
abbrev pub coverage_text : Summary → Coverage → List ℕ
coverage_text summary AllSchedules =
    count_text summary.outcomes (codes "outcome") ++ codes " of all schedules: " ++ count_text summary.states (codes "state")
coverage_text summary (FewPreemptions most) =
    count_text summary.outcomes (codes "outcome") ++ codes " of schedules with at most " ++ count_text most (codes "preemption") ++ codes ", unproved: "
    ++ count_text summary.states (codes "state")
coverage_text summary (Stopped cause) =
    codes "stopped after " ++ count_text summary.states (codes "state") ++ codes ": " ++ cause_text cause

-- the last line
abbrev pub summary_line : Summary → List ℕ
summary_line summary = coverage_text summary summary.coverage ++ 10 ∷ []

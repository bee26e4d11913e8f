-- What is printed of an exploration, the outcome that is saved, and the status (this profile).
use Rattle.std.specs.Prelude.{◌≡◌, ◌⊎◌, ◌++◌, ◌||◌, [], ◌∷◌, ℕ, zero, suc, Bool, not, true, false, List, Option, Some, None, is_some, length, map, slice_get, if◌then◌else◌}
use Rattle.std.specs.List.{list_all, list_any}
use Rattle.std.specs.Option.{unwrap_or}
use Rattle.std.specs.Str.{bytes_eq}
use Rattle.source_runs.specs.acceptance.Sources.{IsNotRun}
use Rattle.source_runs.specs.acceptance.declared.failure.Failure.{Failure}
use Rattle.source_runs.specs.acceptance.declared.failure.Failure.TheVariants.{Memory}
use Rattle.cil_model.specs.declared.limits.Limits.{Limits}
use Rattle.outcome_search.specs.Explorations.{HasAllOutcomes, IsFoundIn}
use Rattle.outcome_search.specs.exploration.FoundOutcomes.{has_deadlock}
use Rattle.outcome_search.specs.exploration.Paths.{outcome_found}
use Rattle.outcome_search.specs.exploration.declared.found_outcomes.FoundOutcome.{FoundOutcome}
use Rattle.outcome_search.specs.declared.bounds.Goal.{Goal}
use Rattle.outcome_search.specs.declared.bounds.Goal.TheVariants.{Fault, Deadlock, Output}
use Rattle.outcome_search.specs.declared.bounds.Stop.{Stop}
use Rattle.outcome_search.specs.declared.bounds.Stop.TheVariants.{States, Preemptions, Budget, Refusal, Goal as AtGoal}
use Rattle.outcome_search.specs.declared.exploring.Exploration.{Exploration}
use Rattle.outcome_text.specs.Outcomes.{IsSchedule, outcome_line, schedule_line}
use Rattle.outcome_text.specs.Summaries.{summary_line}
use Rattle.outcome_text.specs.declared.summaries.Cause.{Cause}
use Rattle.outcome_text.specs.declared.summaries.Cause.TheVariants as cause
use Rattle.outcome_text.specs.declared.summaries.Coverage.{Coverage}
use Rattle.outcome_text.specs.declared.summaries.Coverage.TheVariants.{AllSchedules, FewPreemptions, Stopped}
use Rattle.outcome_text.specs.declared.summaries.Summary.{Summary}
use Rattle.commands.specs.declared.extents.Extent.{Extent}
use Rattle.outputs.specs.Streams.{Fails, Takes}
use Rattle.run_files.specs.RunFiles.{run_file, text_of}
use Rattle.driver.specs.Outputs.{OutputState}
use Rattle.driver.specs.Records.{texts_over}
use Rattle.driver.specs.Threads.{is_done}

-- ---- the text

-- a picture of a schedule is any text, where one is asked for
abbrev pub IsPictureText : Bool → List ℕ → Type 0
IsPictureText false text = text ≡ []
IsPictureText true text = Unit {0}

-- the lines of an outcome with its number: how it ends, a schedule, and a picture of it
pub record IsOutcomeText (explain : Bool) (number : ℕ) (found : FoundOutcome) (text : List ℕ) : Type 0 where
  pub schedule : List ℕ
  pub is_schedule : IsSchedule found.events.items schedule
  pub picture : List ℕ
  pub is_picture : IsPictureText explain picture
  pub all : text ≡ outcome_line number found.ends.items found.printed.items ++ schedule_line found.preemptions (length found.events.items) schedule ++ picture

-- the lines of the first outcomes of a list, numbered from 1
abbrev pub IsShownBelow : Bool → List FoundOutcome → ℕ → List ℕ → Type 0
IsShownBelow explain found zero text = text ≡ []
IsShownBelow explain found (suc n) text =
    (before : List ℕ) × IsShownBelow explain found n before × (last : FoundOutcome) × (slice_get found n ≡ Some last) × (lines : List ℕ)
    × IsOutcomeText explain (suc n) last lines × (text ≡ before ++ lines)

abbrev pub cause_of : Goal → Cause
cause_of Fault = cause.Fault
cause_of Deadlock = cause.Deadlock
cause_of Output = cause.Output

-- why the text is not made: there is no machine for a picture, or memory ran out
abbrev pub IsNotPictured : List ℕ → Limits → Failure → Type 0
IsNotPictured source limits failure = IsNotRun source limits failure ⊎ (failure ≡ Memory)

-- which schedules an exploration covers: all only where it is complete
abbrev pub coverage_of : Extent → Bool → Option Stop → Coverage
coverage_of extent true None = AllSchedules
coverage_of extent false None = Stopped cause.Unconfirmed
coverage_of extent complete (Some Preemptions) = FewPreemptions (unwrap_or extent.preemptions 0)
coverage_of extent complete (Some States) = Stopped cause.States
coverage_of extent complete (Some (Budget thread)) = Stopped (cause.Budget thread)
coverage_of extent complete (Some (Refusal thread)) = Stopped (cause.Memory thread)
coverage_of extent complete (Some (AtGoal goal)) = Stopped (cause_of goal)

abbrev pub summary_of : Extent → Exploration → Summary
summary_of extent e = record { outcomes = length e.found.items; states = e.states; coverage = coverage_of extent e.is_complete e.stop }

-- the lines of all outcomes, and the last line
abbrev pub IsExplorationText : Extent → Bool → Exploration → List ℕ → Type 0
IsExplorationText extent explain e text =
    (outcomes : List ℕ) × IsShownBelow explain e.found.items (length e.found.items) outcomes × (text ≡ outcomes ++ summary_line (summary_of extent e))

-- ---- the outcome that is saved, and the status

-- a thread is blocked or ended early, or these are not the printed bytes
abbrev pub is_other : List ℕ → FoundOutcome → Bool
is_other printed f = not (list_all is_done f.ends.items) || not (bytes_eq printed f.printed.items)

-- the first one that is, among these
abbrev pub first_other_in : List ℕ → List FoundOutcome → Option FoundOutcome
first_other_in printed [] = None
first_other_in printed (f ∷ found) = if is_other printed f then Some f else first_other_in printed found

-- the first outcome with a blocked thread, with one that ended early, or with other printed bytes than the first outcome
abbrev pub first_other : List FoundOutcome → Option FoundOutcome
first_other [] = None
first_other (first ∷ found) = first_other_in first.printed.items (first ∷ found)

-- the texts of an outcome, if there is one: its schedule, and what a `.run` file says of its run by one worker
abbrev pub AreTextsOf : List ℕ → Limits → Option FoundOutcome → Option (List ℕ × List ℕ) → Type 0
AreTextsOf source limits None texts = texts ≡ None
AreTextsOf source limits (Some found) texts = (schedule : List ℕ) × IsSchedule found.events.items schedule
    × (texts ≡ Some (schedule, text_of (run_file source limits 1 found.printed.items)))

-- the texts that are saved, where that is asked for
abbrev pub AreSaved : Bool → List ℕ → Limits → List FoundOutcome → Option (List ℕ × List ℕ) → Type 0
AreSaved false source limits found texts = texts ≡ None
AreSaved true source limits found texts = AreTextsOf source limits (first_other found) texts

-- 4 if a thread is blocked in some outcome; else 3 if one ended early in some, or the printed bytes differ; else 0 if there are no other outcomes; else 6
abbrev pub status_of_exploration : Bool → List FoundOutcome → ℕ
status_of_exploration complete found =
    if list_any has_deadlock found then 4
    else (if is_some (first_other found) then 3
    else (if complete then 0 else 6))

-- ---- the command

-- an exploration of a source: each outcome is that of a run by its schedule, and where it is complete, there are no others
pub record IsExplorationOf (source : List ℕ) (limits : Limits) (e : Exploration) : Type 0 where
  pub real : (n : ℕ) (found : FoundOutcome) → slice_get e.found.items n ≡ Some found → IsFoundIn source limits found
  pub complete : e.is_complete ≡ true → HasAllOutcomes source limits (map outcome_found e.found.items)

-- a source is explored: what was found is printed, and the texts that are saved are left
pub record HasExplored (source : List ℕ) (limits : Limits) (extent : Extent) (saved explain : Bool) (o o' : OutputState) (status : ℕ) : Type 0 where
  pub exploration : Exploration
  pub explored : IsExplorationOf source limits exploration
  pub text : List ℕ
  pub is_text : IsExplorationText extent explain exploration text
  pub shown : Takes o.out o'.out text
  pub silent : o'.err ≡ o.err
  pub texts : Option (List ℕ × List ℕ)
  pub are_saved : AreSaved saved source limits exploration.found.items texts
  pub left : o'.texts ≡ texts_over texts o.texts
  pub status_is : status ≡ status_of_exploration exploration.is_complete exploration.found.items

-- a write failed of what is printed of an exploration
pub record IsExploredInPart (source : List ℕ) (limits : Limits) (extent : Extent) (explain : Bool) (o o' : OutputState) : Type 0 where
  pub exploration : Exploration
  pub explored : IsExplorationOf source limits exploration
  pub text : List ℕ
  pub is_text : IsExplorationText extent explain exploration text
  pub cut : Fails o.out o'.out text
  pub silent : o'.err ≡ o.err

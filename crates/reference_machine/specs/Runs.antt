-- A run of the reference machine, from the entry point on (I.12.3.1 and II.15.4.1.2; the rest is this profile's).
use Rattle.cil_model.specs.Bodies.{code_of, entry_points}
use Rattle.cil_model.specs.Fields.{static_fields}
use Rattle.std.specs.Prelude.{◌≡◌, ℕ, Bool, true, false, List, [], ◌∷◌, map, filter_map, slice_get, Option, Some, None, option_map, option_and_then}
use Rattle.cil_model.specs.declared.types.ClassName.{ClassName}
use Rattle.cil_model.specs.declared.trees.Tree.{Tree}
use Rattle.cil_model.specs.declared.trees.Method.{Method}
use Rattle.cil_model.specs.declared.trees.Code.{Code}
use Rattle.cil_model.specs.declared.limits.Limits.{Limits}
use Rattle.cil_model.specs.declared.events.Event.{Event}
use Rattle.cil_model.specs.declared.events.Event.TheVariants.{Step, Ack, Gc}
use Rattle.cil_model.specs.declared.reports.Fault.TheVariants.{OutOfMemory}
use Rattle.cil_model.specs.declared.reports.End.TheVariants.{Fault as ByFault}
use Rattle.cil_model.specs.declared.reports.Report.{Report}
use Rattle.cil_model.specs.declared.reports.Report.TheVariants.{Ended}
use Rattle.cil_model.specs.Mentions.{literals_of}
use Rattle.reference_machine.specs.States.{Free, State, zero_fields}
use Rattle.reference_machine.specs.Effects.{new_frame}
use Rattle.reference_machine.specs.Rooms.{RefusesBeyondRoom}
use Rattle.reference_machine.specs.Steps.{StepOutcome, Answers, Stuck, step}

-- the state in which thread 0 is at the beginning of the entry point, nothing was born or printed, and no monitor is held
abbrev pub initial_state_at : Tree → Limits → ClassName × Method → Code → State
initial_state_at tree limits entry code =
    record {
      objects = [];
      literal_monitors = map (λ (characters : List ℕ). (characters, Free)) (literals_of tree);
      statics = zero_fields (static_fields tree);
      threads = record { frames = new_frame entry.0 entry.1 code [] None ∷ []; steps_left = limits.budget; ended = None } ∷ [];
      printed = [];
    }

-- the initial state of a tree with an entry point
abbrev pub initial_state : Tree → Limits → Option State
initial_state tree limits = option_and_then (λ (entry : ClassName × Method). option_map (initial_state_at tree limits entry) (code_of entry.1.kind)) (slice_get (entry_points tree) 0)

-- a step that the list requests: of which thread, and whether a birth is refused in it
abbrev pub StepRequest : Type 0
StepRequest = ℕ × Bool

-- the outcome of a list of steps: the reports with the state after them; or, where a step is stuck, the reports before it
pub data Run : Type 0 where
  RunsTo : List Report → State → Run
  SticksAfter : List Report → Run

-- a run after another report
abbrev pub preceded_by : Report → Run → Run
preceded_by r (RunsTo reports s) = RunsTo (r ∷ reports) s
preceded_by r (SticksAfter reports) = SticksAfter (r ∷ reports)

-- a step, and then a run from the state after it
abbrev pub followed_by : StepOutcome → (State → Run) → Run
followed_by Stuck later = SticksAfter []
followed_by (Answers r s) later = preceded_by r (later s)

-- the steps of a list, one after another; none follows one that is stuck
abbrev pub run : Tree → Limits → State → List StepRequest → Run
run tree limits s [] = RunsTo [] s
run tree limits s (t ∷ ts) = followed_by (step tree limits s t.0 t.1) (λ s'. run tree limits s' ts)

-- whether a report is of a birth that was refused
abbrev pub is_refusal : Report → Bool
is_refusal (Ended (ByFault OutOfMemory)) = true
is_refusal _ = false

-- what an event requests of the reference machine, and the report of a step
abbrev pub request_of : Event → Report → Option StepRequest
request_of (Step t) r = Some (t, is_refusal r)
request_of (Ack t) r = None
request_of Gc r = None

-- the report of a step
abbrev pub report_of_step : Event → Report → Option Report
report_of_step (Step t) r = Some r
report_of_step (Ack t) r = None
report_of_step Gc r = None

-- the steps among events with their reports, each with whether its birth was refused; and the reports of the steps
abbrev pub thread_part : List (Event × Report) → List StepRequest
thread_part events = filter_map (λ (e : Event × Report). request_of e.0 e.1) events

-- the reports of the steps
abbrev pub step_reports : List (Event × Report) → List Report
step_reports events = filter_map (λ (e : Event × Report). report_of_step e.0 e.1) events

-- The state of the reference machine after these events, among which the collector has none: no step is stuck, the reports are those of the steps, and
-- births are refused exactly beyond the room of one space.
pub record IsStateAfter (tree : Tree) (limits : Limits) (events : List (Event × Report)) (s : State) : Type 0 where
  pub first : State
  pub begins : initial_state tree limits ≡ Some first
  pub gives : run tree limits first (thread_part events) ≡ RunsTo (step_reports events) s
  pub refuses : RefusesBeyondRoom tree limits first (thread_part events)

-- A run with the text of its events (this profile).
use Rattle.std.specs.Prelude.{◌≡◌, ◌≤◌, ◌+◌, ◌++◌, ◌⊎◌, ℕ, List, [], ◌∷◌, length, take, Option}
use Rattle.std.specs.Io.KnownBytes.{Appends}
use Rattle.std.specs.List.{zip}
use Rattle.outputs.specs.Beginnings.{AppendsBeginning}
use Rattle.cil_model.specs.declared.events.Event.{Event}
use Rattle.cil_model.specs.declared.reports.Report.{Report}
use Rattle.interleaving_core.specs.simulation.MachineStates.{MachineState}
use Rattle.interleaving_core.specs.simulation.Runs.{AreTransitions, FollowsReference}
use Rattle.interleaving_core.specs.simulation.Transitions.{IsTransition}
use Rattle.event_trace.specs.Columns.{line_of}

-- one event after another, each with its report and its line; the numbers of the lines begin with this one
abbrev pub AreTraced : ℕ → MachineState → List Event → MachineState → List Report → List ℕ → Type 0
AreTraced n c [] after reports text = (after ≡ c) × (reports ≡ []) × (text ≡ [])
AreTraced n c (e ∷ es) after [] text = ⊥
AreTraced n c (e ∷ es) after (r ∷ rs) text =
    (next : MachineState) × (more : List ℕ) × IsTransition c e (next, r) × (text ≡ line_of n e r c next ++ more) × AreTraced (n + 1) next es after rs more

-- The events are done in order, from one machine state to another, each with a report. A writer has taken a line of each, numbered from 1, and
-- an empty line after them. The reference machine's run over the steps among them is never stuck, gives the steps' reports, and ends in a state
-- that the machine represents.
pub record IsTraced (old : MachineState) (events : List Event) (new : MachineState) (reports : List Report) (out out' : Option (List ℕ)) : Type 0 where
  pub text : List ℕ
  pub lines : AreTraced 1 old events new reports text
  pub appended : Appends out out' (text ++ 10 ∷ [])
  pub transitions : AreTransitions old events new reports
  pub each : length reports ≡ length events
  pub follows : FollowsReference old new (zip events reports)

-- The first `count` events are done in order, each with a report, and a writer has taken a beginning of their lines, or, where
-- these are all events, of their lines and the empty line.
pub record IsTracedInPart (old : MachineState) (events : List Event) (new : MachineState) (out out' : Option (List ℕ)) : Type 0 where
  pub count : ℕ
  pub within : count ≤ length events
  pub reports : List Report
  pub transitions : AreTransitions old (take count events) new reports
  pub text : List ℕ
  pub lines : AreTraced 1 old (take count events) new reports text
  pub prefix : AppendsBeginning out out' text ⊎ ((count ≡ length events) × AppendsBeginning out out' (text ++ 10 ∷ []))

-- an event isn't done, and a writer has taken a beginning of what was pending; or it is done, and its line follows what was pending
abbrev pub IsEventCut : ℕ → Event → MachineState → MachineState → List ℕ → Option (List ℕ) → Option (List ℕ) → Type 0
IsEventCut n e c after pending out out' =
    ((after ≡ c) × AppendsBeginning out out' pending)
    ⊎ ((r : Report) × IsTransition c e (after, r) × AppendsBeginning out out' (pending ++ line_of n e r c after))

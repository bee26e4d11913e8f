-- A picture of a run (this profile).
use Rattle.std.specs.Prelude.{◌≡◌, ◌≤◌, ◌<◌, ◌⊎◌, ℕ, List, [], get_or, length, take, Bool, Option}
use Rattle.std.specs.Io.KnownBytes.{Appends}
use Rattle.outputs.specs.Beginnings.{AppendsBeginning}
use Rattle.cil_model.specs.declared.events.Event.{Event}
use Rattle.cil_model.specs.declared.reports.Report.{Report}
use Rattle.event_trace.specs.interleaving_core.simulation.MachineStates.{MachineState}
use Rattle.event_trace.specs.interleaving_core.simulation.Runs.{AreTransitions}
use Rattle.svg_text.specs.Contents.{IsDocument}
use Rattle.svg_text.specs.Elements.{escape}
use Rattle.event_trace.specs.Deadlocks.{IsDeadlockOf}
use Rattle.run_picture.specs.Paths.{Has, HasRow}
use Rattle.run_picture.specs.Rows.{numbers_of}
use Rattle.run_picture.specs.Sentences.{deadlock_sentence}
use Rattle.run_picture.specs.Windows.{clamp}
use Rattle.run_picture.specs.declared.rows.TheConstants.{ROWS}
use Rattle.run_picture.specs.declared.windows.Window.{Window}

-- the events are done in order, and each row draws exactly the numbers of its own events in a window
pub record AreSketched (old : MachineState) (events : List Event) (new : MachineState) (window : Window) (rows : List (List ℕ)) : Type 0 where
  pub reports : List Report
  pub transitions : AreTransitions old events new reports
  pub many : length rows ≡ ROWS
  pub drawn : (row : ℕ) → row < ROWS → get_or rows row [] ≡ numbers_of window row 0 events reports

-- a document of well-formed text, which has a path of each of these rows, and this sentence
pub record IsDrawn (text : List ℕ) (rows : List (List ℕ)) (sentence : List ℕ) : Type 0 where
  pub formed : ∥ IsDocument text ∥₁
  pub paths : (row : ℕ) → row < length rows → HasRow text (get_or rows row [])
  pub has_sentence : Has text (escape sentence)

-- A document of well-formed text, which has the path of each row; and each row draws exactly the numbers of its own events in the window. If threads
-- are deadlocked after all events, it has the sentence with exactly their numbers.
pub record IsDrawing (window : Window) (events : List Event) (reports : List Report) (new : MachineState) (text : List ℕ) : Type 0 where
  pub formed : ∥ IsDocument text ∥₁
  pub rows : (row : ℕ) → row < ROWS → HasRow text (numbers_of (clamp window) row 0 events reports)
  pub deadlocked : List Bool
  pub are_deadlocked : IsDeadlockOf new deadlocked
  pub has_sentence : Has text (escape (deadlock_sentence deadlocked))

-- The events are done in order, from one content to another, each with a report, and a writer has taken a picture of them.
pub record IsPicture (old : MachineState) (events : List Event) (new : MachineState) (reports : List Report) (window : Window) (out out' : Option (List ℕ)) : Type 0 where
  pub transitions : AreTransitions old events new reports
  pub each : length reports ≡ length events
  pub text : List ℕ
  pub drawing : IsDrawing window events reports new text
  pub appended : Appends out out' text

-- The first `count` events are done in order, each with a report. A writer has taken nothing; or all are done, and it has taken a beginning of
-- a picture of them.
pub record IsPictureInPart (old : MachineState) (events : List Event) (new : MachineState) (window : Window) (out out' : Option (List ℕ)) : Type 0 where
  pub count : ℕ
  pub within : count ≤ length events
  pub reports : List Report
  pub transitions : AreTransitions old (take count events) new reports
  pub begun : (out' ≡ out) ⊎ ((text : List ℕ) × IsDrawing window events reports new text × (count ≡ length events) × AppendsBeginning out out' text)

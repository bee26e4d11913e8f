-- What holds of the rows of every picture.
use Rattle.std.specs.Prelude.{◌≡◌, ◌<◌, ℕ, true, Contains, List, length}
use Rattle.cil_model.specs.declared.events.Event.{Event}
use Rattle.cil_model.specs.declared.reports.Report.{Report}
use Rattle.run_picture.specs.Rows.{numbers_of}
use Rattle.run_picture.specs.Windows.{is_in_window}
use Rattle.run_picture.specs.declared.rows.TheConstants.{ROWS}
use Rattle.run_picture.specs.declared.windows.Window.{Window}

-- a number is in this row, and in no other one
abbrev pub IsInOneRow : Window → List Event → List Report → ℕ → ℕ → Type 0
IsInOneRow w events reports n row = (row < ROWS) × Contains (numbers_of w row 0 events reports) n × ((other : ℕ) → Contains (numbers_of w other 0 events reports) n → other ≡ row)

-- the number of each event in the window is in exactly one row
abbrev pub EventsHaveOneRow : Type 0
EventsHaveOneRow = (w : Window) (events : List Event) (reports : List Report) → length reports ≡ length events → (n : ℕ) → n < length events → is_in_window w n ≡ true → (row : ℕ) × IsInOneRow w events reports n row

-- What holds of each line, and where a trace ends.
use Rattle.std.specs.Prelude.{◌≡◌, ◌==◌, ◌++◌, ℕ, Bool, true, false, All, List, [], ◌∷◌, length, if◌then◌else◌}
use Rattle.std.specs.List.{join_with_byte}
use Rattle.cil_model.specs.declared.events.Event.{Event}
use Rattle.cil_model.specs.declared.reports.Report.{Report}
use Rattle.interleaving_core.specs.simulation.MachineStates.{MachineState}
use Rattle.instruction_text.specs.Characters.{IsPrintable}
use Rattle.event_trace.specs.Columns.{line_of}
use Rattle.event_trace.specs.Traces.{AreTraced}

-- a line of these columns: a tab stands between two, and nowhere else, and a line feed after all
pub record IsLineOf (columns : List (List ℕ)) (line : List ℕ) : Type 0 where
  pub printable : All IsPrintable columns
  pub is : line ≡ join_with_byte 9 columns ++ 10 ∷ []

-- each line has ten columns of printable ASCII
abbrev pub LinesHaveColumns : Type 0
LinesHaveColumns = (n : ℕ) (e : Event) (r : Report) (before after : MachineState) → (columns : List (List ℕ)) × (length columns ≡ 10) × IsLineOf columns (line_of n e r before after)

-- the bytes before the first empty line, where the list begins a line, or continues one that has bytes already
abbrev pub before_empty_line : Bool → List ℕ → List ℕ
before_empty_line begins [] = []
before_empty_line begins (x ∷ bytes) =
    if x == 10 then (if begins then [] else x ∷ before_empty_line true bytes)
    else x ∷ before_empty_line false bytes

-- the lines of events stand before the first empty line, whatever follows it
abbrev pub LinesComeBefore : Type 0
LinesComeBefore = (n : ℕ) (old new : MachineState) (events : List Event) (reports : List Report) (text printed : List ℕ) → AreTraced n old events new reports text →
    before_empty_line true (text ++ 10 ∷ printed) ≡ text

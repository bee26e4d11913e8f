-- The lines that the numbers of a run are written as (this profile).
use Rattle.std.specs.Fmt.{decimal}
use Rattle.std.specs.Prelude.{◌+◌, ◌++◌, ◌∷◌, [], ℕ, zero, suc, List, Option, Some, None, codes, length}
use Rattle.cil_model.specs.declared.events.Event.{Event}
use Rattle.cil_model.specs.declared.reports.Report.{Report}
use Rattle.run_statistics.specs.Counts.{number_of}
use Rattle.run_statistics.specs.declared.quantity.Quantity.TheVariants.{Events, Steps, BlockedSteps, Cycles, RefusedAllocations}
use Rattle.shared_machine.specs.simulation.MachineStates.{MachineState}
use Rattle.shared_machine.specs.simulation.object_memory.Cells.{used_words}
use Rattle.shared_machine.specs.simulation.object_memory.Objects.{used_space, whole_space}

-- a name and its number
abbrev pub line_of : List ℕ → ℕ → List ℕ
line_of name number = name ++ codes ": " ++ decimal number ++ 10 ∷ []

-- the lines of a thread
abbrev pub thread_text : List Event → List Report → ℕ → List ℕ
thread_text events reports thread = line_of (codes "steps of thread " ++ decimal thread) (number_of (Steps thread) events reports)
    ++ line_of (codes "blocked steps of thread " ++ decimal thread) (number_of (BlockedSteps thread) events reports)

-- the lines of that many threads
abbrev pub steps_text : List Event → List Report → ℕ → List ℕ
steps_text events reports zero = []
steps_text events reports (suc thread) = steps_text events reports thread ++ thread_text events reports thread

-- the words that objects take in the old space, or the only one, and in the new one
abbrev pub words_in_use : MachineState → ℕ
words_in_use c = used_space c.objects + used_words c.objects.spaces.new.cells

-- the words of the old space, or the only one, and of the new one
abbrev pub heap_words : MachineState → ℕ
heap_words c = whole_space c.objects + c.objects.spaces.new.words

-- the line of the most words in use, where that number is known
abbrev pub most_text : Option ℕ → List ℕ
most_text None = []
most_text (Some most) = line_of (codes "most words in use") most

-- the lines of what is not of one thread
abbrev pub total_text : List Event → List Report → ℕ → ℕ → Option ℕ → List ℕ
total_text events reports words heap most = line_of (codes "events") (number_of Events events reports)
    ++ line_of (codes "collector cycles") (number_of Cycles events reports)
    ++ line_of (codes "words in use") words
    ++ line_of (codes "heap words") heap
    ++ most_text most
    ++ line_of (codes "refused allocations") (number_of RefusedAllocations events reports)

-- all lines of a run by these events with these reports, which leaves this machine state and had at most this number of words in use
abbrev pub statistics_text : List Event → List Report → MachineState → Option ℕ → List ℕ
statistics_text events reports c most = steps_text events reports (length c.threads) ++ total_text events reports (words_in_use c) (heap_words c) most

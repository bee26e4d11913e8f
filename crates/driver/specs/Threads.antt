-- How the threads of a run stand, what is printed of them, and the status that follows (this profile).
use Rattle.std.specs.Fmt.{decimal}
use Rattle.std.specs.Prelude.{◌+◌, ◌++◌, ◌∷◌, [], ℕ, Bool, true, false, List, Option, Some, None, codes, map, if◌then◌else◌}
use Rattle.std.specs.List.{list_all, list_any}
use Rattle.cil_model.specs.ExceptionNames.{name_of}
use Rattle.cil_model.specs.declared.reports.End.{End}
use Rattle.cil_model.specs.declared.reports.End.TheVariants.{Done, Budget, Fault}
use Rattle.source_runs.specs.reference_machine.States.{State, Thread}

-- how each thread that was started stands, in the order of their numbers
abbrev pub ends_of : State → List (Option End)
ends_of s = map (λ (thread : Thread). thread.ended) s.threads

-- the word for the status of a thread
abbrev pub end_text : Option End → List ℕ
end_text None = codes "live"
end_text (Some Done) = codes "done"
end_text (Some Budget) = codes "budget"
end_text (Some (Fault fault)) = name_of fault

-- the line of a thread
abbrev pub line_of : ℕ → Option End → List ℕ
line_of thread end = codes "thread " ++ decimal thread ++ codes ": " ++ end_text end ++ 10 ∷ []

-- the lines of threads whose numbers begin with this one
abbrev pub lines_from : ℕ → List (Option End) → List ℕ
lines_from thread [] = []
lines_from thread (end ∷ ends) = line_of thread end ++ lines_from (thread + 1) ends

-- a thread that hasn't ended is live
abbrev pub is_live : Option End → Bool
is_live None = true
is_live (Some end) = false

abbrev pub is_done : Option End → Bool
is_done (Some Done) = true
is_done _ = false

-- the status of a run: 4 some thread is live, else 0 all threads are done, else 3
abbrev pub status_of : List (Option End) → ℕ
status_of ends = if list_any is_live ends then 4 else (if list_all is_done ends then 0 else 3)

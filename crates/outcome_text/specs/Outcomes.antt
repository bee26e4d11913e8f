-- The two lines of an outcome: what it is, and a schedule that leads to it (this profile).
use Rattle.std.specs.Fmt.{decimal}
use Rattle.std.specs.Prelude.{◌≡◌, ◌⊎◌, ◌==◌, ◌||◌, ◌++◌, ◌∷◌, [], ℕ, zero, suc, Bool, true, false, List, Option, Some, None, codes, get_or, is_none, length, if◌then◌else◌}
use Rattle.std.specs.List.{list_all}
use Rattle.cil_model.specs.ExceptionNames.{name_of}
use Rattle.cil_model.specs.declared.events.Event.{Event}
use Rattle.cil_model.specs.declared.reports.End.{End}
use Rattle.cil_model.specs.declared.reports.End.TheVariants.{Done, Budget, Fault}
use Rattle.instruction_text.specs.Characters.{characters_text}
use Rattle.schedule_text.specs.Writings.{IsWritable, IsWritten}

-- a number, and its noun in the plural unless the number is 1
abbrev pub count_text : ℕ → List ℕ → List ℕ
count_text n noun = decimal n ++ codes " " ++ noun ++ (if n == 1 then [] else codes "s")

-- ---- the first line

-- some thread below this number is blocked: it has no end
abbrev pub is_blocked_below : List (Option End) → ℕ → Bool
is_blocked_below ends zero = false
is_blocked_below ends (suc n) = is_blocked_below ends n || is_none (get_or ends n None)

-- what comes before the number of a blocked thread, by whether it is the first one
abbrev pub blocked_lead : Bool → List ℕ
blocked_lead false = codes "deadlock: threads "
blocked_lead true = codes ", "

-- the numbers of the blocked threads below this number
abbrev pub blocked_below : List (Option End) → ℕ → List ℕ
blocked_below ends zero = []
blocked_below ends (suc n) = blocked_below ends n ++ (if is_none (get_or ends n None) then blocked_lead (is_blocked_below ends n) ++ decimal n else [])

-- a thread that ended early
abbrev pub early_text : ℕ → Option End → List ℕ
early_text n (Some Budget) = codes "thread " ++ decimal n ++ codes ": budget; "
early_text n (Some (Fault fault)) = codes "thread " ++ decimal n ++ codes ": " ++ name_of fault ++ codes "; "
early_text n _ = []

-- the threads below this number that ended early
abbrev pub early_below : List (Option End) → ℕ → List ℕ
early_below ends zero = []
early_below ends (suc n) = early_below ends n ++ early_text n (get_or ends n None)

abbrev pub is_done : Option End → Bool
is_done (Some Done) = true
is_done _ = false

-- the blocked threads, and those that ended early
abbrev pub others_text : List (Option End) → List ℕ
others_text ends = blocked_below ends (length ends) ++ (if is_blocked_below ends (length ends) then codes "; " else []) ++ early_below ends (length ends)

-- how the threads of an outcome ended
abbrev pub ends_text : List (Option End) → List ℕ
ends_text ends = if list_all is_done ends then codes "all threads done; " else others_text ends

-- the bytes that an outcome has printed, each as in a string literal
abbrev pub printed_text : List ℕ → List ℕ
printed_text printed = codes "prints \"" ++ characters_text printed ++ codes "\"" ++ 10 ∷ []

-- the line of an outcome: its number, how its threads ended, and what it has printed
abbrev pub outcome_line : ℕ → List (Option End) → List ℕ → List ℕ
outcome_line number ends printed = (codes "outcome " ++ decimal number ++ codes ": ") ++ ends_text ends ++ printed_text printed

-- ---- the second line

-- the text of a schedule; empty if it has too many events for one, or a thread whose number is too large
abbrev pub IsSchedule : List Event → List ℕ → Type 0
IsSchedule events text = IsWritten events text ⊎ ((IsWritable events → ⊥) × (text ≡ []))

-- the line of a schedule: its preemptions, its steps, and its text
abbrev pub schedule_line : ℕ → ℕ → List ℕ → List ℕ
schedule_line preemptions steps text =
    codes "  with " ++ count_text preemptions (codes "preemption") ++ codes ", " ++ count_text steps (codes "step") ++ codes ": " ++ text ++ 10 ∷ []

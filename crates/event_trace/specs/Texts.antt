-- The report of threads that have not ended (this profile).
use Rattle.std.specs.Prelude.{◌++◌, ◌+◌, ◌==◌, ℕ, zero, suc, Bool, true, false, if◌then◌else◌, List, [], ◌∷◌, length, Option, Some, None, codes, decimal, option_and_then, option_map}
use Rattle.std.specs.List.{count_by}
use Rattle.std.specs.Option.{option_map_or}
use Rattle.cil_model.specs.declared.trees.Method.{Method}
use Rattle.cil_model.specs.declared.types.ClassName.{ClassName}
use Rattle.interleaving_core.specs.simulation.resolved_code.ById.{class_name}
use Rattle.interleaving_core.specs.simulation.threads_monitors.Threads.{is_live, is_live_at}
use Rattle.interleaving_core.specs.simulation.MachineStates.{MachineState}
use Rattle.interleaving_core.specs.Positions.{position_at}
use Rattle.interleaving_core.specs.Waits.{wait_at}
use Rattle.interleaving_core.specs.declared.positions.Position.{Position}
use Rattle.interleaving_core.specs.declared.waits.Wait.{Wait}
use Rattle.interleaving_core.specs.declared.waits.Wait.TheVariants.{Monitor, Join}
use Rattle.instruction_text.specs.Texts.{class_text}
use Rattle.event_trace.specs.Columns.{found_at, instruction_column}
use Rattle.event_trace.specs.MethodPositions.{owner_name}
use Rattle.event_trace.specs.Rounds.{is_in}
use Rattle.event_trace.specs.declared.texts.AwaitedText.{AwaitedText}
use Rattle.event_trace.specs.declared.texts.AwaitedText.TheVariants.{Monitor as MonitorText, End as EndText}

-- ---- one thread

-- an object, by its class; an array has none
abbrev pub object_text : Option ClassName → List ℕ
object_text None = codes "an array"
object_text (Some c) = codes "an object of " ++ class_text c

-- a thread that holds a monitor
abbrev pub owner_text : ℕ → Bool → List ℕ
owner_text t true = codes "thread " ++ decimal t
owner_text t false = codes "thread " ++ decimal t ++ codes ", which has ended"

-- the monitor of an object, or the end of a thread
abbrev pub monitor_text : Option ClassName → ℕ → Bool → List ℕ
monitor_text class owner lives = codes "the monitor of " ++ object_text class ++ codes ", held by " ++ owner_text owner lives

abbrev pub end_text : ℕ → List ℕ
end_text thread = codes "the end of thread " ++ decimal thread

abbrev pub awaited_text : AwaitedText → List ℕ
awaited_text (MonitorText object owner) = monitor_text (option_map owner_name object.0) owner.thread owner.is_live
awaited_text (EndText thread) = end_text thread

-- the same, of a wait
abbrev pub wait_text : MachineState → Wait → List ℕ
wait_text c (Monitor class owner) = monitor_text (option_and_then (class_name c.tree) class) owner (is_live_at c.threads owner)
wait_text c (Join thread) = end_text thread

-- where a thread is, by its method and its instruction as a trace has them, and what it waits for
abbrev pub thread_line : ℕ → Option ((ClassName × Method) × ℕ) → Option (List ℕ) → List ℕ
thread_line t at None = codes "thread " ++ decimal t ++ codes " is at " ++ instruction_column at ++ 10 ∷ []
thread_line t at (Some awaited) = codes "thread " ++ decimal t ++ codes " is at " ++ instruction_column at ++ codes ", and waits for " ++ awaited ++ 10 ∷ []

-- the line of a live thread; none of another
abbrev pub thread_lines : MachineState → ℕ → List ℕ
thread_lines c t = option_map_or (λ (p : Position). thread_line t (found_at c.tree p) (option_map (wait_text c) (wait_at c t))) (position_at c.tree c.threads t) []

-- those of the threads below a number
abbrev pub lines_below : MachineState → ℕ → List ℕ
lines_below c zero = []
lines_below c (suc n) = lines_below c n ++ thread_lines c n

-- ---- the threads that are deadlocked

-- how many threads of the set have numbers below this one
abbrev pub count_below : List Bool → ℕ → ℕ
count_below set zero = 0
count_below set (suc n) = count_below set n + (if is_in set n then 1 else 0)

-- the separator before a number, given how many numbers precede it
abbrev pub separator : ℕ → List ℕ
separator zero = []
separator (suc n) = codes ", "

-- the numbers of the set below this one
abbrev pub numbers_below : List Bool → ℕ → List ℕ
numbers_below set zero = []
numbers_below set (suc n) = numbers_below set n ++ (if is_in set n then separator (count_below set n) ++ decimal n else [])

-- all live threads are deadlocked, or some are
abbrev pub deadlock_word : Bool → List ℕ
deadlock_word true = codes "deadlock: threads "
deadlock_word false = codes "partial deadlock: threads "

-- the line of the deadlocked threads; none where no thread is
abbrev pub deadlock_line : MachineState → List Bool → List ℕ
deadlock_line c set =
    if count_below set (length set) == 0
    then []
    else deadlock_word (count_below set (length set) == count_by is_live c.threads) ++ numbers_below set (length set) ++ 10 ∷ []

-- each live thread's position and what it waits for, and then the deadlocked threads
abbrev pub threads_text : MachineState → List Bool → List ℕ
threads_text c set = lines_below c (length c.threads) ++ deadlock_line c set

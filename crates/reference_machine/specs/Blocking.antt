-- Sets of threads that wait for one another (this profile). A set is a list of truths: which threads are in it, by their numbers.
use Rattle.std.specs.Prelude.{◌≡◌, ◌⊎◌, ℕ, Bool, true, false, List, [], ◌∷◌, Some, None, slice_get}
use Rattle.cil_model.specs.declared.reports.End.TheVariants.{Budget}
use Rattle.cil_model.specs.declared.reports.Report.{Report}
use Rattle.cil_model.specs.declared.reports.Report.TheVariants.{Blocked, Ended}
use Rattle.cil_model.specs.declared.trees.Tree.{Tree}
use Rattle.reference_machine.specs.Runs.{StepRequest}
use Rattle.reference_machine.specs.States.{Held, Thread, State, is_live, is_live_thread, monitor_of}
use Rattle.reference_machine.specs.Values.{ObjectName}
use Rattle.reference_machine.specs.Waits.{Wait, ForMonitor, ForEnd, wait_of}

-- the thread is in the set
abbrev pub IsIn : List Bool → ℕ → Type 0
IsIn set t = slice_get set t ≡ Some true

-- a thread was started, and has ended
abbrev pub HasEnded : State → ℕ → Type 0
HasEnded s t = (thread : Thread) × (slice_get s.threads t ≡ Some thread) × (is_live_thread thread ≡ false)

-- the monitor's owner is in the set, or has ended, and what it holds stays held; the thread whose end is waited for is in the set
abbrev pub IsHeldUp : State → List Bool → Wait → Type 0
IsHeldUp s set (ForMonitor n owner) = IsIn set owner ⊎ HasEnded s owner
IsHeldUp s set (ForEnd thread) = IsIn set thread

-- each thread of the set waits, and is held up by the set
abbrev pub IsBlockedSet : Tree → State → List Bool → Type 0
IsBlockedSet tree s set = (t : ℕ) → IsIn set t → (w : Wait) × (wait_of tree s t ≡ Some w) × IsHeldUp s set w

-- the deadlocked threads: a blocked set, of which every other is a part
pub record AreDeadlocked (tree : Tree) (s : State) (set : List Bool) : Type 0 where
  pub blocked : IsBlockedSet tree s set
  pub greatest : (other : List Bool) → IsBlockedSet tree s other → (t : ℕ) → IsIn other t → IsIn set t

-- who holds a monitor was started
abbrev pub HoldersWereStarted : State → Type 0
HoldersWereStarted s = (n : ObjectName) (owner count : ℕ) → monitor_of s n ≡ Some (Held owner count) → (thread : Thread) × (slice_get s.threads owner ≡ Some thread)

-- some live thread waits for nothing, or each live thread is in the set
abbrev pub ContinuesUnlessAll : Tree → State → List Bool → Type 0
ContinuesUnlessAll tree s set = ((t : ℕ) × (is_live s t ≡ true) × (wait_of tree s t ≡ None)) ⊎ ((t : ℕ) → is_live s t ≡ true → IsIn set t)

-- In these steps with their reports, each step of a thread of the set is blocked, up to the first that uses up the budget of one.
abbrev pub StaysBlocked : List Bool → List StepRequest → List Report → Type 0
StaysBlocked set [] reports = Unit {0}
StaysBlocked set (q ∷ qs) [] = Unit {0}
StaysBlocked set (q ∷ qs) (r ∷ rs) = (IsIn set q.0 × (r ≡ Ended Budget)) ⊎ ((IsIn set q.0 → r ≡ Blocked) × StaysBlocked set qs rs)

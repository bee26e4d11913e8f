-- The rows of a picture (this profile): five for each thread, three for the collector, and one for events of no live thread.
use Rattle.std.specs.Prelude.{◌==◌, ◌&&◌, ◌+◌, ◌*◌, ◌++◌, if◌then◌else◌, nat_lt, get_or, set, ℕ, List, [], ◌∷◌}
use Rattle.cil_model.specs.declared.events.Event.{Event}
use Rattle.cil_model.specs.declared.events.Event.TheVariants.{Step, Ack, Gc}
use Rattle.cil_model.specs.declared.limits.TheConstants.{MOST_THREADS}
use Rattle.cil_model.specs.declared.reports.End.TheVariants.{Done, Budget, Fault}
use Rattle.cil_model.specs.declared.reports.Report.{Report}
use Rattle.cil_model.specs.declared.reports.Report.TheVariants.{Ran, Blocked, Ended, Absent, Acked, NothingPosted, Worked, Waiting, CycleDone}
use Rattle.run_picture.specs.declared.rows.TheConstants.{KINDS, WORKED, WAITED, CYCLE_ENDS, NO_THREAD}
use Rattle.run_picture.specs.Windows.{is_in_window}
use Rattle.run_picture.specs.declared.windows.Window.{Window}

-- the row of an event of a thread: a step that ran or was the thread's last, one that ended it early, a blocked one, an acknowledgement of what was
-- posted, and one of nothing
abbrev pub thread_row : ℕ → Report → ℕ
thread_row t Ran = KINDS * t
thread_row t (Ended Done) = KINDS * t
thread_row t (Ended Budget) = KINDS * t + 1
thread_row t (Ended (Fault fault)) = KINDS * t + 1
thread_row t Blocked = KINDS * t + 2
thread_row t Acked = KINDS * t + 3
thread_row t NothingPosted = KINDS * t + 4
thread_row t Absent = NO_THREAD
thread_row t Worked = NO_THREAD
thread_row t Waiting = NO_THREAD
thread_row t CycleDone = NO_THREAD

-- the row of an event of the collector: it worked, it waited, it ended a cycle
abbrev pub collector_row : Report → ℕ
collector_row Worked = WORKED
collector_row Waiting = WAITED
collector_row CycleDone = CYCLE_ENDS
collector_row Ran = NO_THREAD
collector_row Blocked = NO_THREAD
collector_row (Ended end) = NO_THREAD
collector_row Absent = NO_THREAD
collector_row Acked = NO_THREAD
collector_row NothingPosted = NO_THREAD

-- the row of an event, by its report; a thread that no machine has is none
abbrev pub row_of : Event → Report → ℕ
row_of (Step t) r = if nat_lt t MOST_THREADS then thread_row t r else NO_THREAD
row_of (Ack t) r = if nat_lt t MOST_THREADS then thread_row t r else NO_THREAD
row_of Gc r = collector_row r

-- the number of an event, from 0, where it is drawn in this row
abbrev pub number_in : Window → ℕ → ℕ → Event → Report → List ℕ
number_in w row n e r = if is_in_window w n && (row_of e r == row) then n ∷ [] else []

-- the numbers, from this one on, of the events that are drawn in a row
abbrev pub numbers_of : Window → ℕ → ℕ → List Event → List Report → List ℕ
numbers_of w row n [] reports = []
numbers_of w row n (e ∷ es) [] = []
numbers_of w row n (e ∷ es) (r ∷ rs) = number_in w row n e r ++ numbers_of w row (n + 1) es rs

-- rows, with an event more where it is in the window
abbrev pub drawn_rows : Window → ℕ → Event → Report → List (List ℕ) → List (List ℕ)
drawn_rows w n e r rows = if is_in_window w n then set rows (row_of e r) (get_or rows (row_of e r) [] ++ n ∷ []) else rows

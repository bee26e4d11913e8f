-- What calls have a session's machine do (this profile).
use Rattle.std.specs.Prelude.{◌≡◌, ◌⊎◌, ◌+◌, ◌<◌, ◌≤◌, ◌++◌, ◌∷◌, [], ℕ, List, Option, Some, None, false, length, replicate, slice_get, take}
use Rattle.cil_model.specs.declared.events.Event.{Event}
use Rattle.cil_model.specs.declared.events.Event.TheVariants.{Step}
use Rattle.cil_model.specs.declared.reports.Report.{Report}
use Rattle.cil_model.specs.declared.reports.Report.TheVariants.{Ran as RanOf}
use Rattle.interleaving_core.specs.simulation.MachineStates.{MachineState}
use Rattle.interleaving_core.specs.simulation.Runs.{AreTransitions}
use Rattle.interleaving_core.specs.simulation.Transitions.{IsTransition, TakesMemory}
use Rattle.interleaving_core.specs.Histories.{DoesMore}
use Rattle.schedule_text.specs.Items.{words}
use Rattle.schedule_text.specs.Readings.{AreRead, IsFirstFault}
use Rattle.schedule_text.specs.declared.errors.ScheduleError.{ScheduleError}
use Rattle.cilvm_c.specs.Codes.{has_ran, number_of, report_code, schedule_code}
use Rattle.cilvm_c.specs.Sessions.{SessionState, with_machine}
use Rattle.cilvm_c.specs.declared.codes.Code.{Code}
use Rattle.cilvm_c.specs.declared.codes.Code.TheVariants.{Ran, Full, Closed, NoMemory}
use Rattle.cilvm_c.specs.declared.running.Stop.{Stop}

-- ---- one event

-- why an event is not done: more is printed than may be; or memory ran out, and this event takes some
abbrev pub IsNotDone : MachineState → ℕ → Event → Code → Type 0
IsNotDone c most e code = ((code ≡ Full) × (most < length c.printed)) ⊎ ((code ≡ NoMemory) × (length c.printed ≤ most) × TakesMemory c e)

-- it is done, with the code of its report, and is one more of what the machine has done
abbrev pub IsDone : MachineState → ℕ → Event → Code → MachineState → Type 0
IsDone c most e code new = (r : Report) × (length c.printed ≤ most) × (code ≡ report_code r) × IsTransition c e (new, r) × DoesMore c (e ∷ []) (r ∷ []) new

-- the machine does an event; or nothing is changed
abbrev pub Acts : MachineState → ℕ → Event → Code → MachineState → Type 0
Acts c most e code new = IsDone c most e code new ⊎ ((new ≡ c) × IsNotDone c most e code)

-- the same with the number of the code
abbrev pub ActsBy : MachineState → ℕ → Event → ℕ → MachineState → Type 0
ActsBy c most e number new = (code : Code) × (number ≡ number_of code) × Acts c most e code new

abbrev pub HasDoneOneBy : Event → SessionState → Option MachineState → ℕ → SessionState → Type 0
HasDoneOneBy e h None code new = (code ≡ number_of Closed) × (new ≡ h)
HasDoneOneBy e h (Some c) code new = (answer : Code) × (after : MachineState) × (code ≡ number_of answer) × (new ≡ with_machine h after) × Acts c h.most_printed e answer after

-- a session has its machine do an event; a closed one stays so
abbrev pub HasDoneOne : Event → SessionState → ℕ → SessionState → Type 0
HasDoneOne e h = HasDoneOneBy e h h.machine

-- ---- steps of a thread

-- Why there are no more steps: the most allowed are made, and all report that they ran; or the last one made reports something else; or the next
-- one is not done.
abbrev pub IsLastStep : MachineState → ℕ → ℕ → ℕ → ℕ → List Report → Code → Type 0
IsLastStep after printed t most done reports code =
    ((done ≡ most) × (reports ≡ replicate done RanOf) × (code ≡ Ran))
    ⊎ (((n : ℕ) × (r : Report) × (n < most) × (done ≡ n + 1) × (reports ≡ replicate n RanOf ++ r ∷ []) × (has_ran r ≡ false) × (code ≡ report_code r))
    ⊎ ((done < most) × (reports ≡ replicate done RanOf) × IsNotDone after printed (Step t) code))

-- a machine makes `done` steps of a thread, at most `most`
abbrev pub MakesSteps : MachineState → ℕ → ℕ → ℕ → ℕ → Code → MachineState → Type 0
MakesSteps c printed t most done code after =
    (reports : List Report) × AreTransitions c (replicate done (Step t)) after reports × DoesMore c (replicate done (Step t)) reports after × IsLastStep after printed t most done reports code

-- the same with the number of the code
abbrev pub MakesStepsBy : MachineState → ℕ → ℕ → ℕ → ℕ → ℕ → MachineState → Type 0
MakesStepsBy c printed t most done number after = (code : Code) × (number ≡ number_of code) × MakesSteps c printed t most done code after

abbrev pub HasSteppedBy : ℕ → SessionState → Option MachineState → ℕ → ℕ → ℕ → SessionState → Type 0
HasSteppedBy t h None most done code new = (code ≡ number_of Closed) × (done ≡ 0) × (new ≡ h)
HasSteppedBy t h (Some c) most done code new =
    (answer : Code) × (after : MachineState) × (code ≡ number_of answer) × (new ≡ with_machine h after) × MakesSteps c h.most_printed t most done answer after

-- a session has its machine make steps of a thread
abbrev pub HasStepped : ℕ → SessionState → ℕ → ℕ → ℕ → SessionState → Type 0
HasStepped t h = HasSteppedBy t h h.machine

-- ---- a schedule

-- a machine has done these events
abbrev pub HasDoneAll : MachineState → List Event → MachineState → Type 0
HasDoneAll c events after = (reports : List Report) × AreTransitions c events after reports × DoesMore c events reports after

-- a machine has done the first of these events, up to one that is not done
abbrev pub IsStopped : MachineState → ℕ → List Event → Stop → MachineState → Type 0
IsStopped c printed events stop after =
    HasDoneAll c (take stop.done events) after × ((e : Event) × (slice_get events stop.done ≡ Some e) × IsNotDone after printed e stop.code)

-- all events are done; or the first `done`, and the next is not
abbrev pub IsRunOn : MachineState → ℕ → List Event → ℕ → Code → MachineState → Type 0
IsRunOn c printed events done code after =
    ((done ≡ length events) × (code ≡ Ran) × HasDoneAll c events after)
    ⊎ IsStopped c printed events (record { done = done; code = code }) after

-- the text has a fault: the code is its number, or that of out of memory, and nothing is done
abbrev pub IsUnread : List ℕ → SessionState → ℕ → ℕ → SessionState → Type 0
IsUnread text h done code new =
    (error : ScheduleError) × IsFirstFault (words text) error × (code ≡ schedule_code error) × (done ≡ 0) × (new.machine ≡ h.machine) × (new.most_printed ≡ h.most_printed)

-- the text writes events, which a machine does
abbrev pub IsTextRun : MachineState → ℕ → List ℕ → ℕ → Code → MachineState → Type 0
IsTextRun c printed text done code after = (events : List Event) × AreRead (words text) events × IsRunOn c printed events done code after

abbrev pub HasRunBy : List ℕ → SessionState → Option MachineState → ℕ → ℕ → SessionState → Type 0
HasRunBy text h None done code new = (code ≡ number_of Closed) × (done ≡ 0) × (new ≡ h)
HasRunBy text h (Some c) done code new =
    IsUnread text h done code new
    ⊎ ((answer : Code) × (after : MachineState) × (code ≡ number_of answer) × (new ≡ with_machine h after) × IsTextRun c h.most_printed text done answer after)

-- a session has its machine do the events of a schedule's text
abbrev pub HasRunText : List ℕ → SessionState → ℕ → ℕ → SessionState → Type 0
HasRunText text h = HasRunBy text h h.machine

-- What results from an order: what is printed, and the status that the program ends with (this profile).
use Rattle.std.specs.Fmt.{decimal}
use Rattle.std.specs.Prelude.{◌≡◌, ◌⊎◌, ◌*◌, ◌++◌, ◌∷◌, ◌<◌, ◌≤◌, [], ℕ, Bool, true, false, All, IfSome, List, None, Option, codes, is_some, length, map, if◌then◌else◌}
use Rattle.std.specs.List.{list_any, zip}
use Rattle.flip_stress.specs.Stress.{slot_count}
use Rattle.flip_stress.specs.declared.sizes.Sizes.{Sizes}
use Rattle.end_explanations.specs.Replays.{AreEndsExplained}
use Rattle.event_trace.specs.Deadlocks.{IsDeadlockOf}
use Rattle.event_trace.specs.Texts.{threads_text}
use Rattle.event_trace.specs.Traces.{IsTraced, IsTracedInPart}
use Rattle.event_trace.specs.declared.errors.TraceError.{TraceError}
use Rattle.event_trace.specs.declared.errors.TraceError.TheVariants.{Memory as MemoryRanOut, Device as CantWrite}
use Rattle.source_runs.specs.simulation.RetainedObjects.{LeavesOnlyRetained}
use Rattle.source_runs.specs.simulation.Refines.{Represents}
use Rattle.source_runs.specs.simulation.threads_monitors.Threads.{end_of}
use Rattle.cil_model.specs.declared.events.Event.{Event}
use Rattle.cil_model.specs.declared.limits.Limits.{Limits}
use Rattle.source_runs.specs.reference_machine.States.{State}
use Rattle.cil_model.specs.declared.reports.End.{End}
use Rattle.cil_model.specs.declared.reports.Report.{Report}
use Rattle.source_runs.specs.simulation.MachineStates.{MachineState}
use Rattle.source_runs.specs.acceptance.Failures.{is_refusal, message_of}
use Rattle.source_runs.specs.acceptance.Failures.{IsOfWriting, status_of_failure}
use Rattle.outputs.specs.Streams.{Fails, StreamState, Takes}
use Rattle.commands.specs.GivenLimits.{limits_for}
use Rattle.commands.specs.Orders.{event_count, is_explained}
use Rattle.commands.specs.declared.part.Part.{Part}
use Rattle.cil_model.specs.declared.stops.StopAt.{StopAt}
use Rattle.cil_model.specs.declared.stops.StopAt.TheVariants.{End as AtEnd, Deadlock as AtDeadlock}
use Rattle.run_files.specs.RunFiles.{run_file}
use Rattle.run_files.specs.declared.file.RunFile.{RunFile}
use Rattle.run_picture.specs.Pictures.{IsPicture, IsPictureInPart}
use Rattle.run_picture.specs.declared.windows.TheConstants.{MOST_EVENTS}
use Rattle.driver.specs.Explorations.{HasExplored, IsExploredInPart}
use Rattle.driver.specs.Outputs.{IsGivenUp, OutputState}
use Rattle.driver.specs.Pictures.{too_many_text, window_of}
use Rattle.driver.specs.Records.{IsRecordOf, is_short, status_with, texts_in, texts_over, too_long_text}
use Rattle.driver.specs.Replays.{differences_from, differences_text, status_if_same}
use Rattle.driver.specs.Statistics.{IsMostOfRun, stats_text}
use Rattle.driver.specs.Threads.{ends_of, is_live, lines_from, status_of}
use Rattle.driver.specs.declared.recording.Record.{Record}
use Rattle.source_runs.specs.shared_machine.Histories.{events_of, reports_of}
use Rattle.source_runs.specs.shared_machine.declared.history.Entry.{Entry}
use Rattle.source_runs.specs.shared_machine.Work.{IsDeadlocked, IsOwnOf}
use Rattle.source_runs.specs.acceptance.declared.failure.Failure.{Failure}
use Rattle.source_runs.specs.acceptance.declared.failure.Failure.TheVariants.{Memory, Device}
use Rattle.commands.specs.declared.order.Order.{Order}
use Rattle.commands.specs.declared.order.Order.TheVariants.{Check, Run as RunOrder, Trace, Picture, Explore, Flip}
use Rattle.commands.specs.declared.run.Run.{Run}
use Rattle.commands.specs.declared.run.RunKind.{RunKind}
use Rattle.commands.specs.declared.run.RunKind.TheVariants.{Schedule, Replay, Workers}
use Rattle.source_runs.specs.acceptance.Sources.{HasAcceptedTree, IsMade, IsNotAccepted, IsNotRun, IsOpened}
use Rattle.source_runs.specs.Runs.{IsNotRunBy, IsPrintedUpTo, ResultsIn, ResultsInBy, IsReady}
use Rattle.source_runs.specs.shared_machine.Worlds.{AreDoneOf}
use Rattle.schedule_text.specs.Items.{words}
use Rattle.schedule_text.specs.Readings.{AreRead}

-- the lines of each live thread of a machine, and of those that are deadlocked
abbrev pub AreThreadsExplained : MachineState → List ℕ → Type 0
AreThreadsExplained c text = (deadlocked : List Bool) × IsDeadlockOf c deadlocked × (text ≡ threads_text c deadlocked)

-- what explains how the threads of a machine stand, where that is asked for, unless memory runs out; else nothing
abbrev pub IsThreadText : Bool → MachineState → List ℕ → Type 0
IsThreadText false c text = text ≡ []
IsThreadText true c text = (text ≡ []) ⊎ AreThreadsExplained c text

-- the text on the threads that a fault or their budget ended in these events with their reports, which a new machine of the source performs
abbrev pub AreEndsExplainedFor : List ℕ → Limits → List (Event × Report) → List ℕ → Type 0
AreEndsExplainedFor source limits events text = (initial : MachineState) × IsMade source limits initial × AreEndsExplained source initial events text

-- that text, if it is asked for, unless memory runs out; else nothing
abbrev pub IsEndText : Bool → List ℕ → Limits → List (Event × Report) → List ℕ → Type 0
IsEndText false source limits events text = text ≡ []
IsEndText true source limits events text = (text ≡ []) ⊎ AreEndsExplainedFor source limits events text

-- what explains how the threads of a run are, where each is asked for: the live ones of its machine, and then those that a fault or their budget ended
abbrev pub IsRunText : (live ended : Bool) → List ℕ → Limits → List (Event × Report) → MachineState → List ℕ → Type 0
IsRunText live ended source limits events c text =
    (first second : List ℕ) × IsThreadText live c first × IsEndText ended source limits events second × (text ≡ first ++ second)

-- what is shown on the two outputs of bytes that were printed, of the states of the threads, and of what explains them; and the status
pub record IsShown (printed : List ℕ) (ends : List (Option End)) (text : List ℕ) (o o' : OutputState) (status : ℕ) : Type 0 where
  pub output : Takes o.out o'.out printed
  pub errors : Takes o.err o'.err (lines_from 0 ends ++ text)
  pub status_is : status ≡ status_of ends

-- what a machine has printed and the states of its threads are shown
abbrev pub IsMachineShown : Bool → MachineState → OutputState → OutputState → ℕ → Type 0
IsMachineShown explain c o o' status =
    (text : List ℕ) × IsThreadText explain c text × IsShown c.printed (map end_of c.threads) text o o' status

-- what a run of a source has printed and the states of its threads are shown
abbrev pub IsRunShown : Bool → List ℕ → Limits → List Event → List Report → MachineState → OutputState → OutputState → ℕ → Type 0
IsRunShown explain source limits events reports c o o' status =
    (text : List ℕ) × IsRunText explain explain source limits (zip events reports) c text × IsShown c.printed (map end_of c.threads) text o o' status

-- A write failed of what was to be written on the two outputs, the first text before the second: a prefix of the first is written, and
-- nothing of the second; or the whole first, and a prefix of the second.
abbrev pub AreCut : List ℕ → List ℕ → OutputState → OutputState → Type 0
AreCut first second o o' = (Fails o.out o'.out first × (o'.err ≡ o.err)) ⊎ (Takes o.out o'.out first × Fails o.err o'.err second)

-- a write of that failed
abbrev pub IsMachineShownInPart : Bool → MachineState → OutputState → OutputState → Type 0
IsMachineShownInPart explain c o o' =
    (text : List ℕ) × IsThreadText explain c text × AreCut c.printed (lines_from 0 (map end_of c.threads) ++ text) o o'

-- a write of what a run shows failed
abbrev pub IsRunShownInPart : Bool → List ℕ → Limits → List Event → List Report → MachineState → OutputState → OutputState → Type 0
IsRunShownInPart explain source limits events reports c o o' =
    (text : List ℕ) × IsRunText explain explain source limits (zip events reports) c text × AreCut c.printed (lines_from 0 (map end_of c.threads) ++ text) o o'

-- how the threads of a machine stand is shown, and what explains that; and the status
abbrev pub AreThreadsShown : Bool → MachineState → StreamState → StreamState → ℕ → Type 0
AreThreadsShown explain c err err' status =
    (text : List ℕ) × IsThreadText explain c text × Takes err err' (lines_from 0 (map end_of c.threads) ++ text) × (status ≡ status_of (map end_of c.threads))

-- a write of that failed
abbrev pub AreThreadsShownInPart : Bool → MachineState → StreamState → StreamState → Type 0
AreThreadsShownInPart explain c err err' =
    (text : List ℕ) × IsThreadText explain c text × Fails err err' (lines_from 0 (map end_of c.threads) ++ text)

-- ---- a run of the flip

-- the two lines of a run of the flip
abbrev pub flip_text : ℕ → ℕ → List ℕ
flip_text kept retired = codes "kept " ++ decimal kept ++ 10 ∷ codes "retired " ++ decimal retired ++ 10 ∷ []

-- it is done: every load gave what was stored, and with the status 0 each first copy is retired
abbrev pub IsFlipDone : Sizes → OutputState → OutputState → ℕ → Type 0
IsFlipDone sizes o o' status = (retired : ℕ) × Takes o.out o'.out (flip_text (sizes.rounds * slot_count sizes) retired)
    × ((status ≡ 3) ⊎ ((status ≡ 0) × (retired ≡ slot_count sizes))) × (o'.err ≡ o.err) × (o'.texts ≡ o.texts)

-- a write of the two lines failed
abbrev pub IsFlipDoneInPart : Sizes → OutputState → OutputState → Type 0
IsFlipDoneInPart sizes o o' = ((retired : ℕ) × Fails o.out o'.out (flip_text (sizes.rounds * slot_count sizes) retired)) × (o'.err ≡ o.err)

-- ---- an order

-- what a check prints of an accepted source
abbrev pub accepted_text : List ℕ
accepted_text = codes "accepted" ++ 10 ∷ []

-- the notes on an accepted source are written where explanations are asked for, and else nothing
abbrev pub AreNotesShown : Bool → StreamState → StreamState → Type 0
AreNotesShown false err err' = err' ≡ err
AreNotesShown true err err' = (notes : List ℕ) × Takes err err' notes

-- a write of the notes failed
abbrev pub AreNotesShownInPart : Bool → StreamState → StreamState → Type 0
AreNotesShownInPart false err err' = ⊥
AreNotesShownInPart true err err' = (notes : List ℕ) × Fails err err' notes

-- a check is done: the one line that it prints, and the notes on the source
abbrev pub IsChecked : List ℕ → Bool → OutputState → OutputState → ℕ → Type 0
IsChecked source explain o o' status =
    HasAcceptedTree source × Takes o.out o'.out accepted_text × AreNotesShown explain o.err o'.err × (status ≡ 0) × (o'.texts ≡ o.texts)

-- a write failed of the line that a check prints, or of the notes after it
abbrev pub IsCheckedInPart : List ℕ → Bool → OutputState → OutputState → Type 0
IsCheckedInPart source explain o o' =
    HasAcceptedTree source × ((Fails o.out o'.out accepted_text × (o'.err ≡ o.err)) ⊎ (Takes o.out o'.out accepted_text × AreNotesShownInPart explain o.err o'.err))

-- why a check is not done
abbrev pub IsNotChecked : List ℕ → Failure → Type 0
IsNotChecked source failure =
    IsNotAccepted source failure ⊎ (HasAcceptedTree source × IsOfWriting failure)

-- what is reported after the lines of the threads where a run was stopped since memory ran out
abbrev pub stop_text : Bool → List ℕ
stop_text stopped = if stopped then message_of Memory else []

-- the status of a run that has this one if it is not stopped
abbrev pub status_after : Bool → ℕ → ℕ
status_after stopped status = if stopped then status_of_failure Memory else status

-- A run by a text ends in a state: the events done are the first of those that the text writes, and all of them unless memory ran out or the next
-- one would have printed beyond the bound. This is reported: the states of the threads, what explains them of a machine that represents the state and,
-- where asked, of the threads that ended, whether memory ran out, in what the run differs from what is expected, and the numbers of the run.
pub record IsRun (source : List ℕ) (limits : Limits) (text : List ℕ) (most : Option ℕ) (expected : Option RunFile) (explain stats ended stopped : Bool) (state : State) (reported : List ℕ) : Type 0 where
  pub events : List Event
  pub are_read : AreRead (words text) events
  pub done : List Event
  pub are_done : AreDoneOf events done stopped
  pub reports : List Report
  pub results_in : ResultsInBy source limits done reports state
  pub within : IsPrintedUpTo most state.printed
  pub after : MachineState
  pub represents : Represents after state
  pub explanation : List ℕ
  pub explains : IsRunText explain ended source limits (zip done reports) after explanation
  pub most_words : Option ℕ
  pub is_most : IfSome most_words (IsMostOfRun source limits (zip done reports))
  pub reports_all : reported ≡ lines_from 0 (ends_of state) ++ explanation ++ (stop_text stopped ++ differences_text (differences_from expected source limits state.printed) ++ stats_text stats done reports after most_words)

-- a run is done: what its state has printed and what is reported is shown
pub record HasRunSource (source : List ℕ) (limits : Limits) (text : List ℕ) (most : Option ℕ) (expected : Option RunFile) (explain stats : Bool) (o o' : OutputState) (status : ℕ) : Type 0 where
  pub stopped : Bool
  pub state : State
  pub reported : List ℕ
  pub is_run : IsRun source limits text most expected explain stats explain stopped state reported
  pub output : Takes o.out o'.out state.printed
  pub errors : Takes o.err o'.err reported
  pub status_is : status ≡ status_after stopped (status_if_same (differences_from expected source limits state.printed) (status_of (ends_of state)))
  pub same : o'.texts ≡ o.texts

-- why a run is not done: it has not begun, or a write failed
abbrev pub HasNotRun : List ℕ → Limits → List ℕ → Failure → Type 0
HasNotRun source limits text failure = IsNotRunBy source limits text failure ⊎ (HasAcceptedTree source × (failure ≡ Device))

-- why a run is not traced or drawn: it has not begun, memory ran out, or a write failed
abbrev pub HasNotTraced : List ℕ → Limits → List ℕ → Failure → Type 0
HasNotTraced source limits text failure = IsNotRunBy source limits text failure ⊎ (HasAcceptedTree source × IsOfWriting failure)

-- what the error of a trace becomes
abbrev pub failure_of_tracing : TraceError → Failure
failure_of_tracing MemoryRanOut = Memory
failure_of_tracing CantWrite = Device

-- A run is traced. A machine in the initial state of the program makes the transitions of the events, with the reports of the run, and a
-- line of each is shown, and an empty line. It then represents the state that the run ends in, and what was printed and the states of its
-- threads are shown as if it were not traced. Where the last event ends a cycle, the machine has no more words in use than are retained.
pub record HasTraced (source : List ℕ) (limits : Limits) (text : List ℕ) (explain : Bool) (o o' : OutputState) (status : ℕ) : Type 0 where
  pub events : List Event
  pub reports : List Report
  pub state : State
  pub results_in : ResultsIn source limits text events reports state
  pub initial : MachineState
  pub opened : IsOpened results_in.by_events.tree limits initial
  pub after : MachineState
  pub between : StreamState
  pub traced : IsTraced initial events after reports o.out.contents between.contents
  pub represents : Represents after state
  pub leaves : LeavesOnlyRetained results_in.by_events.tree limits events reports after
  pub explanation : List ℕ
  pub explains : IsThreadText explain after explanation
  pub shown : IsShown state.printed (ends_of state) explanation (record o { out = between }) o' status
  pub same : o'.texts ≡ o.texts

-- A run is drawn. A machine in the initial state of the program makes the transitions of the events, with the reports of the run, and a
-- picture of those of a part is shown, which are few. It then represents the state that the run ends in.
pub record IsRunDrawn (source : List ℕ) (limits : Limits) (text : List ℕ) (part : Part) (explain : Bool) (o o' : OutputState) : Type 0 where
  pub events : List Event
  pub few : event_count part (length events) ≤ MOST_EVENTS
  pub reports : List Report
  pub state : State
  pub results_in : ResultsIn source limits text events reports state
  pub initial : MachineState
  pub opened : IsOpened results_in.by_events.tree limits initial
  pub after : MachineState
  pub pictured : IsPicture initial events after reports (window_of part (length events)) o.out.contents o'.out.contents
  pub represents : Represents after state
  pub explanation : List ℕ
  pub explains : IsThreadText explain after explanation

-- A run is drawn, and the states of its threads are shown. Where the last event ends a cycle, the machine has no more words in use than are
-- retained.
pub record HasDrawn (source : List ℕ) (limits : Limits) (text : List ℕ) (part : Part) (explain : Bool) (o o' : OutputState) (status : ℕ) : Type 0 where
  pub drawn : IsRunDrawn source limits text part explain o o'
  pub leaves : LeavesOnlyRetained drawn.results_in.by_events.tree limits drawn.events drawn.reports drawn.after
  pub errors : Takes o.err o'.err (lines_from 0 (ends_of drawn.state) ++ drawn.explanation)
  pub status_is : status ≡ status_of (ends_of drawn.state)
  pub same : o'.texts ≡ o.texts

-- A picture would have more events than it may. Nothing is run, and their number is reported.
pub record HasTooMany (source : List ℕ) (limits : Limits) (text : List ℕ) (part : Part) (o o' : OutputState) (status : ℕ) : Type 0 where
  pub events : List Event
  pub initial : MachineState
  pub ready : IsReady source limits text events initial
  pub many : MOST_EVENTS < event_count part (length events)
  pub untouched : o'.out ≡ o.out
  pub reported : Takes o.err o'.err (too_many_text (event_count part (length events)))
  pub status_is : status ≡ 2
  pub same : o'.texts ≡ o.texts

-- what a picture is, or why there is none
abbrev pub IsDrawn : List ℕ → Limits → List ℕ → Part → Bool → OutputState → OutputState → ℕ → Type 0
IsDrawn source limits text part explain o o' status = HasDrawn source limits text part explain o o' status ⊎ HasTooMany source limits text part o o' status

-- how workers leave the threads of a run that memory did not stop: none is live, or, where the run may stop there, each live one waits for
-- a monitor that another thread holds or for the end of a live thread
abbrev pub HaveEnded : StopAt → MachineState → State → Type 0
HaveEnded AtEnd after state = list_any is_live (ends_of state) ≡ false
HaveEnded AtDeadlock after state = (list_any is_live (ends_of state) ≡ false) ⊎ IsDeadlocked after

-- Workers have run a source. There is a list of entries, each an event of its worker's own. The reference machine's run over the steps
-- among the events ends in this state, in which the threads have ended unless memory ran out. The record is that of these events, and this is
-- what is reported: the states of the threads, what explains them, why there is no record, whether memory ran out, for an event, a thread or the record, and
-- the numbers of the run.
pub record IsRunByWorkers (source : List ℕ) (limits : Limits) (workers : ℕ) (stop_at : StopAt) (most : Option ℕ) (asked explain stats stopped : Bool) (state : State) (made : Record) (reported : List ℕ) : Type 0 where
  pub entries : List Entry
  pub own : All (IsOwnOf workers) entries
  pub results_in : ResultsInBy source limits (events_of entries) (reports_of entries) state
  pub within : IsPrintedUpTo most state.printed
  pub is_record : IsRecordOf asked (events_of entries) (run_file source limits workers state.printed) made
  pub after : MachineState
  pub ended : stopped ≡ false → HaveEnded stop_at after state
  pub represents : Represents after state
  pub explanation : List ℕ
  pub explains : IsRunText explain explain source limits (zip (events_of entries) (reports_of entries)) after explanation
  pub most_words : Option ℕ
  pub is_most : IfSome most_words (IsMostOfRun source limits (zip (events_of entries) (reports_of entries)))
  pub reports_all : reported ≡ lines_from 0 (ends_of state) ++ explanation ++ (too_long_text made ++ stop_text (is_short stopped made) ++ stats_text stats (events_of entries) (reports_of entries) after most_words)

-- a run by workers is done: what its state has printed and what is reported is shown, and the texts of the record are left
pub record HasRunThreads (source : List ℕ) (limits : Limits) (workers : ℕ) (stop_at : StopAt) (most : Option ℕ) (asked explain stats : Bool) (o o' : OutputState) (status : ℕ) : Type 0 where
  pub stopped : Bool
  pub state : State
  pub made : Record
  pub reported : List ℕ
  pub is_run : IsRunByWorkers source limits workers stop_at most asked explain stats stopped state made reported
  pub output : Takes o.out o'.out state.printed
  pub errors : Takes o.err o'.err reported
  pub left : o'.texts ≡ texts_over (texts_in made) o.texts
  pub status_is : status ≡ status_after (is_short stopped made) (status_with made (status_of (ends_of state)))

-- why a run by workers is not done: it has not begun, or a write failed
abbrev pub HasNotRunThreads : List ℕ → Limits → Failure → Type 0
HasNotRunThreads source limits failure = IsNotRun source limits failure ⊎ (HasAcceptedTree source × (failure ≡ Device))

-- why a source is not explored: there is no machine of it, memory ran out, or a write failed
abbrev pub HasNotExplored : List ℕ → Limits → Failure → Type 0
HasNotExplored source limits failure = IsNotRun source limits failure ⊎ (HasAcceptedTree source × IsOfWriting failure)

-- a run is done: one by a schedule text takes it from the command line, a replay from the file; only workers leave a record
abbrev pub IsRunDone : Run → List ℕ → List ℕ → RunKind → OutputState → OutputState → ℕ → Type 0
IsRunDone run source schedule (Schedule text limits) = HasRunSource source limits text.now run.most_printed None run.explain run.stats
IsRunDone run source schedule (Replay name limits expected) = HasRunSource source (limits_for limits expected) schedule run.most_printed expected run.explain run.stats
IsRunDone run source schedule (Workers workers name stop_at limits) = HasRunThreads source limits workers.count stop_at run.most_printed (is_some name) run.explain run.stats

-- why a run is not done
abbrev pub IsRunNotDone : List ℕ → List ℕ → RunKind → Failure → Type 0
IsRunNotDone source schedule (Schedule text limits) = HasNotRun source limits text.now
IsRunNotDone source schedule (Replay name limits expected) = HasNotRun source (limits_for limits expected) schedule
IsRunNotDone source schedule (Workers workers name stop_at limits) = HasNotRunThreads source limits

-- an order is carried out: only a run by workers and an exploration leave files
abbrev pub IsDone : Order → List ℕ → List ℕ → OutputState → OutputState → ℕ → Type 0
IsDone (Check file explain) source schedule = IsChecked source explain
IsDone (RunOrder run) source schedule = IsRunDone run source schedule run.kind
IsDone (Trace file name limits expected explain) source schedule = HasTraced source (limits_for limits expected) schedule explain
IsDone (Picture file name part limits expected explain) source schedule = IsDrawn source (limits_for limits expected) schedule part explain
IsDone (Explore file extent name limits explain) source schedule = HasExplored source limits extent (is_some name) explain
IsDone (Flip sizes) source schedule = IsFlipDone sizes

-- why an order is not carried out
abbrev pub IsNotDone : Order → List ℕ → List ℕ → Failure → Type 0
IsNotDone (Check file explain) source schedule = IsNotChecked source
IsNotDone (RunOrder run) source schedule = IsRunNotDone source schedule run.kind
IsNotDone (Trace file name limits expected explain) source schedule = HasNotTraced source (limits_for limits expected) schedule
IsNotDone (Picture file name part limits expected explain) source schedule = HasNotTraced source (limits_for limits expected) schedule
IsNotDone (Explore file extent name limits explain) source schedule = HasNotExplored source limits
IsNotDone (Flip sizes) source schedule = IsOfWriting

-- ---- an order that is not carried out

-- a write failed of what a run shows
pub record IsRunInPart (source : List ℕ) (limits : Limits) (text : List ℕ) (most : Option ℕ) (expected : Option RunFile) (explain stats ended : Bool) (o o' : OutputState) : Type 0 where
  pub stopped : Bool
  pub state : State
  pub reported : List ℕ
  pub is_run : IsRun source limits text most expected explain stats ended stopped state reported
  pub cut : AreCut state.printed reported o o'

-- a run is traced in part: a prefix of the lines of its first events is shown
pub record IsTraceInPart (source : List ℕ) (limits : Limits) (text : List ℕ) (o o' : OutputState) : Type 0 where
  pub events : List Event
  pub initial : MachineState
  pub ready : IsReady source limits text events initial
  pub after : MachineState
  pub traced : IsTracedInPart initial events after o.out.contents o'.out.contents
  pub silent : o'.err ≡ o.err

-- a run is traced to its end, and shown in part
pub record IsTracedAndRunInPart (source : List ℕ) (limits : Limits) (text : List ℕ) (explain : Bool) (o o' : OutputState) : Type 0 where
  pub events : List Event
  pub initial : MachineState
  pub ready : IsReady source limits text events initial
  pub after : MachineState
  pub reports : List Report
  pub between : StreamState
  pub traced : IsTraced initial events after reports o.out.contents between.contents
  pub shown : IsRunInPart source limits text None None explain false false (record o { out = between }) o'

-- a run is drawn in part: its first events are done, and nothing or a prefix of the picture is shown
pub record IsPictureCut (source : List ℕ) (limits : Limits) (text : List ℕ) (part : Part) (o o' : OutputState) : Type 0 where
  pub events : List Event
  pub initial : MachineState
  pub ready : IsReady source limits text events initial
  pub few : event_count part (length events) ≤ MOST_EVENTS
  pub after : MachineState
  pub pictured : IsPictureInPart initial events after (window_of part (length events)) o.out.contents o'.out.contents
  pub silent : o'.err ≡ o.err

-- a run is drawn, and a write of the states of its threads failed
pub record IsPicturedAndRunInPart (source : List ℕ) (limits : Limits) (text : List ℕ) (part : Part) (explain : Bool) (o o' : OutputState) : Type 0 where
  pub drawn : IsRunDrawn source limits text part explain o o'
  pub errors : Fails o.err o'.err (lines_from 0 (ends_of drawn.state) ++ drawn.explanation)

-- a write failed of the line that reports too many events
pub record IsTooManyInPart (source : List ℕ) (limits : Limits) (text : List ℕ) (part : Part) (o o' : OutputState) : Type 0 where
  pub events : List Event
  pub initial : MachineState
  pub ready : IsReady source limits text events initial
  pub many : MOST_EVENTS < event_count part (length events)
  pub cut : Fails o.err o'.err (too_many_text (event_count part (length events)))
  pub silent : o'.out ≡ o.out

-- what a trace shows in part
abbrev pub IsTracedUpTo : List ℕ → Limits → List ℕ → Bool → OutputState → OutputState → Type 0
IsTracedUpTo source limits text explain o o' = IsTraceInPart source limits text o o' ⊎ IsTracedAndRunInPart source limits text explain o o'

-- what a picture shows in part
abbrev pub IsDrawnInPart : List ℕ → Limits → List ℕ → Part → Bool → OutputState → OutputState → Type 0
IsDrawnInPart source limits text part explain o o' =
    IsPictureCut source limits text part o o' ⊎ (IsPicturedAndRunInPart source limits text part explain o o' ⊎ IsTooManyInPart source limits text part o o')

-- a write failed of what a run by workers shows
pub record IsRunByWorkersInPart (source : List ℕ) (limits : Limits) (workers : ℕ) (stop_at : StopAt) (most : Option ℕ) (asked explain stats : Bool) (o o' : OutputState) : Type 0 where
  pub stopped : Bool
  pub state : State
  pub made : Record
  pub reported : List ℕ
  pub is_run : IsRunByWorkers source limits workers stop_at most asked explain stats stopped state made reported
  pub cut : AreCut state.printed reported o o'

-- a part of what a run shows where it is done
abbrev pub IsRunDoneInPart : Run → List ℕ → List ℕ → RunKind → OutputState → OutputState → Type 0
IsRunDoneInPart run source schedule (Schedule text limits) = IsRunInPart source limits text.now run.most_printed None run.explain run.stats run.explain
IsRunDoneInPart run source schedule (Replay name limits expected) = IsRunInPart source (limits_for limits expected) schedule run.most_printed expected run.explain run.stats run.explain
IsRunDoneInPart run source schedule (Workers workers name stop_at limits) = IsRunByWorkersInPart source limits workers.count stop_at run.most_printed (is_some name) run.explain run.stats

-- a part of what the order shows where it is carried out
abbrev pub IsDoneInPart : Order → List ℕ → List ℕ → OutputState → OutputState → Type 0
IsDoneInPart (Check file explain) source schedule = IsCheckedInPart source explain
IsDoneInPart (RunOrder run) source schedule = IsRunDoneInPart run source schedule run.kind
IsDoneInPart (Trace file name limits expected explain) source schedule = IsTracedUpTo source (limits_for limits expected) schedule explain
IsDoneInPart (Picture file name part limits expected explain) source schedule = IsDrawnInPart source (limits_for limits expected) schedule part explain
IsDoneInPart (Explore file extent name limits explain) source schedule = IsExploredInPart source limits extent explain
IsDoneInPart (Flip sizes) source schedule = IsFlipDoneInPart sizes

-- a failure is reported with what explains it: a refusal, where the order asks for that
abbrev pub has_explanation : Order → Failure → Bool
has_explanation order failure = if is_refusal failure then is_explained order else false

-- what follows the line of a failure: a text that explains it, where that is asked for, else nothing
abbrev pub IsExplanation : Bool → List ℕ → Type 0
IsExplanation false text = text ≡ []
IsExplanation true text = Unit {0}

-- an order is given up for a failure, and all that is to be reported of it is written: the status is the failure's
pub record IsReported (order : Order) (source schedule : List ℕ) (o o' : OutputState) (status : ℕ) : Type 0 where
  pub failure : Failure
  pub before : StreamState
  pub given_up : IsGivenUp (IsNotDone order source schedule) (IsDoneInPart order source schedule) o (record o' { err = before }) failure
  pub text : List ℕ
  pub explains : IsExplanation (has_explanation order failure) text
  pub written : Takes before o'.err (message_of failure ++ text)
  pub status_is : status ≡ status_of_failure failure

-- an order is given up for a failure, and a write failed that was to report it
pub record IsReportCut (order : Order) (source schedule : List ℕ) (o o' : OutputState) : Type 0 where
  pub failure : Failure
  pub before : StreamState
  pub given_up : IsGivenUp (IsNotDone order source schedule) (IsDoneInPart order source schedule) o (record o' { err = before }) failure
  pub text : List ℕ
  pub explains : IsExplanation (has_explanation order failure) text
  pub cut : Fails before o'.err (message_of failure ++ text)

-- the order is carried out, or it is reported why it is not
abbrev pub IsOutcome : Order → List ℕ → List ℕ → OutputState → OutputState → ℕ → Type 0
IsOutcome order source schedule o o' status =
    IsDone order source schedule o o' status ⊎ IsReported order source schedule o o' status

-- that, or a write failed that was to report it: the status is 5
abbrev pub IsOutcomeOrCut : Order → List ℕ → List ℕ → OutputState → OutputState → ℕ → Type 0
IsOutcomeOrCut order source schedule o o' status =
    IsOutcome order source schedule o o' status
    ⊎ ((status ≡ 5) × IsReportCut order source schedule o o')

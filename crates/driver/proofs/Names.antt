-- The names that the proofs of this crate cite, re-exported by one module. Declares nothing.
pub use Rattle.cil_model.specs.declared.events.Event.{Event}
pub use Rattle.cil_model.specs.declared.limits.Limits.{Limits}
pub use Rattle.cil_model.specs.declared.reports.End.{End}
pub use Rattle.cil_model.specs.declared.reports.Report.{Report}
pub use Rattle.commands.specs.Orders.{event_count, record_file_of}
pub use Rattle.driver.specs.Explorations.{IsNotPictured, first_other, first_other_in, is_other, HasExplored, AreSaved, status_of_exploration, IsOutcomeText, IsShownBelow}
pub use Rattle.driver.specs.Outcomes.{IsEndText, IsMachineShown, IsMachineShownInPart, IsRunShown, IsRunShownInPart, HasNotExplored, AreCut, AreEndsExplainedFor, AreNotesShownInPart, AreThreadsExplained, HasRunSource, HasTraced, IsExplanation, IsRun, IsRunInPart, IsRunText, IsShown, IsThreadText, IsTracedAndRunInPart, status_after, stop_text, AreThreadsShown, AreThreadsShownInPart, HasDrawn, IsPicturedAndRunInPart, IsRunDrawn, HasRunThreads, HaveEnded, IsOutcome, IsRunByWorkers, IsRunByWorkersInPart, IsRunDone, HasNotTraced, IsPictureCut, IsNotChecked, IsDrawn, IsDrawnInPart, IsTracedUpTo, HasNotRun, HasNotRunThreads, flip_text, IsTraceInPart}
pub use Rattle.driver.specs.Outputs.{OutputState, HasFailedWrite, IsGivenUp, IsUntouched, output_state}
pub use Rattle.driver.specs.Pictures.{window_of, too_many_text}
pub use Rattle.driver.specs.Records.{IsRecordOf, is_short, status_with, texts_in, texts_over, too_long_text, texts_of}
pub use Rattle.driver.specs.Replays.{differences_from, differences_text, status_if_same}
pub use Rattle.driver.specs.Statistics.{IsMostOfRun, stats_text}
pub use Rattle.driver.specs.Threads.{lines_from, ends_of, status_of, line_of, is_live, end_text}
pub use Rattle.event_trace.specs.MethodPositions.{ArePositionsOf}
pub use Rattle.event_trace.specs.Traces.{IsTraced, IsTracedInPart}
pub use Rattle.outputs.proofs.StreamLaws.{fails_second, takes_both, fails_first}
pub use Rattle.outputs.specs.Streams.{Fails, StreamState, Takes, HasGrown}
pub use Rattle.run_files.specs.RunFiles.{run_file}
pub use Rattle.run_files.specs.declared.file.RunFile.{RunFile}
pub use Rattle.run_picture.specs.Pictures.{IsPicture, IsPictureInPart}
pub use Rattle.run_picture.specs.declared.windows.TheConstants.{MOST_EVENTS}
pub use Rattle.schedule_text.specs.Items.{has_thread_number}
pub use Rattle.schedule_text.specs.declared.errors.TheConstants.{MOST_EVENTS as MOST_SCHEDULED}
pub use Rattle.source_runs.proofs.RunLemmas.{results_in}
pub use Rattle.source_runs.proofs.acceptance.SourceLemmas.{handed_on, on_err, if_ok, on_err_of}
pub use Rattle.source_runs.proofs.interleaving_core.Runs.LongerRuns.{has_done}
pub use Rattle.source_runs.proofs.simulation.Representation.VisibleState.{ends_refine, printed_refines}
pub use Rattle.source_runs.specs.Runs.{IsPrintedUpTo, IsReady, IsRunBy, IsNotRunBy}
pub use Rattle.source_runs.specs.acceptance.Failures.{IsOfWriting, is_refusal, failure_of_schedule, message_of}
pub use Rattle.source_runs.specs.acceptance.Sources.{HasAcceptedTree, IsNotAccepted, IsNotRun, HasRunTo}
pub use Rattle.source_runs.specs.acceptance.declared.failure.Failure.{Failure}
pub use Rattle.source_runs.specs.acceptance.declared.failure.Failure.TheVariants.{Device, Memory}
pub use Rattle.source_runs.specs.reference_machine.States.{State}
pub use Rattle.source_runs.specs.shared_machine.Histories.{events_of, reports_of}
pub use Rattle.source_runs.specs.shared_machine.Work.{HasEnded, IsOwn, IsOwnOf}
pub use Rattle.source_runs.specs.shared_machine.interleaving_core.Histories.{HasDone}
pub use Rattle.source_runs.specs.simulation.MachineStates.{MachineState}
pub use Rattle.source_runs.specs.simulation.Refines.{Represents}
pub use Rattle.source_runs.specs.simulation.Runs.{RefinesAfter}
pub use Rattle.source_runs.specs.simulation.threads_monitors.Threads.{end_of, is_live as is_live_thread}
pub use Rattle.std.proofs.lemmas.List.{append-nil, length-replicate, length-map, take_all}
pub use Rattle.std.proofs.lemmas.Option.{slice_get_read}
pub use Rattle.std.proofs.lemmas.Result.{on_err_weaker, on_ok_weaker}
pub use Rattle.std.specs.List.{zip, count_by, list_all, list_any}

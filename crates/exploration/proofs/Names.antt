-- The names that the proofs of this crate cite, passed on from one place. Declares nothing.
pub use Rattle.exploration.specs.CheckedSteps.{AreAllChecked, AreEntries, IsLedToBy, IsStepChecked, IsStepInto}
pub use Rattle.exploration.specs.LaggingMachines.{IsLagging, IsAhead, here, onward, IsStatusLagging, IsThreadLagging, IsLocalMove}
pub use Rattle.exploration.specs.Paths.{AreFirstChecked, AreStepsChecked, IsNotTerminalAt, LeadsTo, events_of, IsReal, IsTerminalAt, CanStepAt, CannotStepAt, ShowsOneOf, outcome_found}
pub use Rattle.exploration.specs.Searches.{IsLedTo, LeadsInto, IsCovered, IsClosed, AreOrdinary, IsCoveredState, KeepBudgets}
pub use Rattle.exploration.specs.TerminalOutcomes.{CannotStep, IsTerminal, ShownOutcome, ShowOnly, outcome_shown, IsOver, outcome_of}
pub use Rattle.exploration.specs.declared.found_outcomes.FoundOutcome.{FoundOutcome}
pub use Rattle.exploration.specs.declared.found_outcomes.Path.{Path}
pub use Rattle.interleaving_core.proofs.simulation.ListLaws.AgreeingLists.{agree_append, agree_length, agree_set, agree_at}
pub use Rattle.interleaving_core.proofs.simulation.Runs.EventCorrespondence.{acknowledgement_keeps, collection_keeps, each_alike, step_is_refused, step_is_followed}
pub use Rattle.interleaving_core.proofs.simulation.Runs.UniqueTransitions.{one_transition}
pub use Rattle.interleaving_core.proofs.simulation.Threads.StepEffects.{same_program}
pub use Rattle.interleaving_core.proofs.simulation.cil_model.Lists.{none_is_some}
pub use Rattle.interleaving_core.proofs.simulation.resolved_code.InstructionOperations.UniqueOperations.{one_operation}
pub use Rattle.interleaving_core.specs.simulation.Agreement.{Agree}
pub use Rattle.interleaving_core.specs.simulation.MachineStates.{MachineState, frame_room, mutator_of}
pub use Rattle.interleaving_core.specs.simulation.Runs.{AreTransitions, AreSteps, IsRunOf, RefusesBeyondRoom}
pub use Rattle.interleaving_core.specs.simulation.Transitions.{initial_machine_state, live_thread, IsTransition, machine_state_at, after_request, answer_step, count_step, finish, seat_thread, seats_after, thread_for, IsStatusTransition, IsThreadTransition, left_by}
pub use Rattle.interleaving_core.specs.simulation.cil_model.declared.events.Event.{Event}
pub use Rattle.interleaving_core.specs.simulation.cil_model.declared.events.Event.TheVariants.{Step, Ack, Gc}
pub use Rattle.interleaving_core.specs.simulation.cil_model.declared.limits.Limits.{Limits}
pub use Rattle.interleaving_core.specs.simulation.cil_model.declared.limits.TheConstants.{MOST_THREADS}
pub use Rattle.interleaving_core.specs.simulation.cil_model.declared.reports.End.TheVariants.{Budget}
pub use Rattle.interleaving_core.specs.simulation.cil_model.declared.reports.Report.{Report}
pub use Rattle.interleaving_core.specs.simulation.cil_model.declared.reports.Report.TheVariants.{Ran, Blocked, Absent, Ended as HasEnded}
pub use Rattle.interleaving_core.specs.simulation.cil_model.declared.trees.Tree.{Tree}
pub use Rattle.interleaving_core.specs.simulation.interpreter.Local.{AreLocalSteps, frames_over, IsLocalStep}
pub use Rattle.interleaving_core.specs.simulation.interpreter.declared.outcomes.InstructionOutcome.TheVariants.{OwnEffect, Starts, Joins}
pub use Rattle.interleaving_core.specs.simulation.reference_machine.Runs.{RunsTo, is_refusal, initial_state, run, step_reports, thread_part}
pub use Rattle.interleaving_core.specs.simulation.reference_machine.States.{State, is_live as is_live_state}
pub use Rattle.interleaving_core.specs.simulation.reference_machine.Steps.{Answers, step}
pub use Rattle.interleaving_core.specs.simulation.threads_monitors.Frames.{Frames, Frame}
pub use Rattle.interleaving_core.specs.simulation.threads_monitors.Threads.{is_live_at, is_live, join_effect, charge, status_after, thread_on, wait_for, end_of}
pub use Rattle.interleaving_core.specs.simulation.threads_monitors.declared.effects.Effect.TheVariants.{Continues, Returns, Blocks, Raises}
pub use Rattle.interleaving_core.specs.simulation.threads_monitors.declared.threads.Thread.{Thread}
pub use Rattle.interleaving_core.specs.simulation.threads_monitors.declared.threads.ThreadStatus.{ThreadStatus}
pub use Rattle.interleaving_core.specs.simulation.threads_monitors.declared.threads.ThreadStatus.TheVariants.{Live, Ended}
pub use Rattle.std.proofs.lemmas.List.{set-set, length-map}
pub use Rattle.std.proofs.lemmas.Option.{same_Some, none-some, get_or_from_slice_get, slice_get-map, slice_get_within, slice_get_read}
pub use Rattle.std.specs.Option.{option_map_or}
pub use mathlib.Core.Logic.{dite}
pub use native.Mathlib.Decide.{ℕ_discrete}

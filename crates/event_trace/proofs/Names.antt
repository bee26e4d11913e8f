-- The names that the proofs of this crate cite, re-exported by one module. Declares nothing.
pub use Rattle.cil_model.proofs.SameLaws.{not_both}
pub use Rattle.cil_model.specs.Declarations.{Declaration, built_ins, source_name, as_method}
pub use Rattle.cil_model.specs.declared.events.Event.{Event}
pub use Rattle.cil_model.specs.declared.events.Event.TheVariants.{Step, Ack, Gc}
pub use Rattle.cil_model.specs.declared.reports.Report.{Report}
pub use Rattle.cil_model.specs.declared.trees.Class.{Class}
pub use Rattle.cil_model.specs.declared.trees.Line.{Line}
pub use Rattle.cil_model.specs.declared.trees.Method.{Method}
pub use Rattle.cil_model.specs.declared.trees.Tree.{Tree}
pub use Rattle.cil_model.specs.declared.types.ClassName.{ClassName}
pub use Rattle.event_trace.specs.Columns.{found_at, heap_columns, heap_for, instruction_column, line_text, own_column, phase_text, position_for, report_text, size_columns, line_of}
pub use Rattle.event_trace.specs.Laws.{LinesHaveColumns, IsLineOf, LinesComeBefore, before_empty_line}
pub use Rattle.event_trace.specs.MethodPositions.{built_in_method, method_indices, source_method, ArePositionsOf}
pub use Rattle.event_trace.specs.Rounds.{is_in, after_round, is_held_up, stays, restrict}
pub use Rattle.event_trace.specs.Texts.{count_below, deadlock_line, deadlock_word, numbers_below, separator, lines_below}
pub use Rattle.event_trace.specs.declared.method_positions.MethodPositions.{MethodPositions}
pub use Rattle.instruction_text.specs.Characters.{IsPrintable, is_printable}
pub use Rattle.interleaving_core.proofs.Runs.FollowedRuns.{SameProgram, transitions_follow, transitions_length, transitions_program}
pub use Rattle.interleaving_core.proofs.Threads.RefusedMemory.{on_err}
pub use Rattle.interleaving_core.proofs.simulation.ListLaws.AgreeingLists.{agree_beyond, agree_get, agree_length}
pub use Rattle.interleaving_core.proofs.simulation.Threads.Joins.{lives_alike}
pub use Rattle.interleaving_core.proofs.simulation.reference_machine.Deadlocks.LastingDeadlocks.{waiting_lives, runs_last}
pub use Rattle.interleaving_core.proofs.simulation.reference_machine.Deadlocks.ReadyThreads.{IsTrueWait, waits_truly, continues_unless_all}
pub use Rattle.interleaving_core.specs.Waits.{class_of_object, end_awaited, held_by_another, join_wait, monitor_wait, status_wait, wait_at, wait_by, wait_in}
pub use Rattle.interleaving_core.specs.declared.waits.Wait.{Wait}
pub use Rattle.interleaving_core.specs.declared.waits.Wait.TheVariants.{Monitor, Join}
pub use Rattle.interleaving_core.specs.simulation.MachineStates.{MachineState}
pub use Rattle.interleaving_core.specs.simulation.Refines.{Names, AreFrames, IsFrame, IsMonitor, IsThread, IsValue, Represents, StatusRefines, int32, int64, native, null_reference, reference}
pub use Rattle.interleaving_core.specs.simulation.reference_machine.States.{Monitor as StateMonitor, Free as IsFree, Held as IsHeld, HeapObject, Frame as StateFrame, Thread as StateThread, State, is_live, monitor_of, object_at, Held, is_live_thread}
pub use Rattle.interleaving_core.specs.simulation.reference_machine.Values.{ObjectName, Value as StateValue, Null, Reference, Born, Literal}
pub use Rattle.interleaving_core.specs.simulation.reference_machine.Waits.{ForMonitor, ForEnd, called_action, top_object, wait_of, wait_of_thread, Wait as StateWait, wait_by as state_wait_by, wait_in as state_wait_in, held_by_another as state_held, end_awaited as state_awaited}
pub use Rattle.interleaving_core.specs.simulation.threads_monitors.Threads.{thread_on, is_live_at}
pub use Rattle.name_tables.specs.BuiltInTable.{built_in_entry}
pub use Rattle.name_tables.specs.Numbers.{declarations, method_at, source_entry}
pub use Rattle.name_tables.specs.declared.ids.TheConstants.{FIRST_OF_SOURCE}
pub use Rattle.outputs.specs.Beginnings.{AppendsBeginning}
pub use Rattle.schedule_text.proofs.SoFar.{so_far, so_far_all, so_far_before, so_far_more, so_far_none, so_far_whole}
pub use Rattle.schedule_text.specs.Items.{name_of as event_text, events_of}
pub use Rattle.std.proofs.lemmas.Bool.{eq-eqb, ne_eqb, and_parts}
pub use Rattle.std.proofs.lemmas.List.{append-nil, length-replicate, map-append, length-append, take_all, length-map}
pub use Rattle.std.proofs.lemmas.List.Elements.{All-cons, All-nil, recursion_from_All}
pub use Rattle.std.proofs.lemmas.Option.{slice_get-map, same_Some, slice_get_within, slice_get_cases, slice_get_read, unwrap_or-slice_get}
pub use Rattle.std.specs.Io.KnownBytes.{Appends}
pub use Rattle.std.specs.List.{count_by, AllByRecursion, join_with_byte, list_all, filter_map, flat_map, zip}

-- The record of a run: what it is, and what is reported where there is none (this profile).
use Rattle.std.specs.Prelude.{◌≡◌, ◌<◌, [], ℕ, Bool, true, false, List, Option, Some, None, length, option_map, string_bytes}
use Rattle.cil_model.specs.declared.events.Event.{Event}
use Rattle.schedule_text.specs.Writings.{IsWritten}
use Rattle.schedule_text.specs.declared.errors.ScheduleError.TheVariants.{TooLong as IsTooLong}
use Rattle.schedule_text.specs.declared.errors.TheConstants.{MOST_EVENTS}
use Rattle.source_runs.specs.acceptance.Failures.{failure_of_schedule, message_of, status_of_failure}
use Rattle.driver.specs.declared.recording.Record.{Record}
use Rattle.driver.specs.declared.recording.Record.TheVariants.{Unasked, Texts, TooLong, NoMemory}
use Rattle.driver.specs.declared.recording.RecordFiles.{RecordFiles}
use Rattle.run_files.specs.RunFiles.{text_of}
use Rattle.run_files.specs.declared.file.RunFile.{RunFile}

-- What results from the record of a run with these events, whose `.run` file says this: where it is asked for, it is the text that the events are
-- written as, and the text of that file, unless the events are too many.
abbrev pub IsRecordOf : Bool → List Event → RunFile → Record → Type 0
IsRecordOf asked events file Unasked = asked ≡ false
IsRecordOf asked events file (Texts texts) = (asked ≡ true) × IsWritten events (string_bytes texts.schedule) × (string_bytes texts.run ≡ text_of file)
IsRecordOf asked events file TooLong = (asked ≡ true) × (MOST_EVENTS < length events)
IsRecordOf asked events file NoMemory = asked ≡ true

-- the texts of the two files of a record, the schedule first
abbrev pub texts_of : Option RecordFiles → Option (List ℕ × List ℕ)
texts_of files = option_map (λ (texts : RecordFiles). (string_bytes texts.schedule, string_bytes texts.run)) files

-- the texts of a record, if it has some
abbrev pub texts_in : Record → Option (List ℕ × List ℕ)
texts_in (Texts texts) = texts_of (Some texts)
texts_in _ = None

-- the texts that are left: these, or those that were there before
abbrev pub texts_over : Option (List ℕ × List ℕ) → Option (List ℕ × List ℕ) → Option (List ℕ × List ℕ)
texts_over None before = before
texts_over (Some texts) before = Some texts

-- what is reported of a run that has too many events for a record
abbrev pub too_long_text : Record → List ℕ
too_long_text TooLong = message_of (failure_of_schedule IsTooLong)
too_long_text _ = []

-- the status of a run that has this one without a record
abbrev pub status_with : Record → ℕ → ℕ
status_with TooLong status = status_of_failure (failure_of_schedule IsTooLong)
status_with _ status = status

-- memory ran out, for the run, so that it was stopped, or for its record
abbrev pub is_short : Bool → Record → Bool
is_short stopped NoMemory = true
is_short stopped _ = stopped

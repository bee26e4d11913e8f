-- The errors of sources that are not accepted (this profile).
use Rattle.std.specs.Prelude.{◌≡◌, ◌≢◌, ℕ, List, Some, Err}
use Rattle.cil_model.specs.Legality.{IsLegal, least_broken}
use Rattle.cil_model.specs.Sources.{HasTree, IsAnswer}
use Rattle.cil_model.specs.Typings.{IsFirstUntyped}
use Rattle.ilasm_reader.specs.Answers.{IsReadAnswer, error_number as reading_number_of}
use Rattle.ilasm_reader.specs.declared.reading.ReadError.{ReadError}
use Rattle.ilasm_reader.specs.declared.reading.ReadError.TheVariants.{OutOfMemory as UnreadForMemory}
use Rattle.metadata.specs.RuleNumbers.{violation_number}
use Rattle.verifier.specs.Numbers.{typing_number_of}
use Rattle.verifier.specs.declared.refusals.VerifyError.TheVariants.{NoTyping}
use Rattle.acceptance.specs.declared.errors.SourceError.{SourceError}
use Rattle.acceptance.specs.declared.errors.SourceError.TheVariants.{Unread, Illegal, Untyped, OutOfMemory}
use Rattle.acceptance.specs.declared.failure.Failure.{Failure}
use Rattle.acceptance.specs.declared.failure.Failure.TheVariants.{Refused, Memory}

-- what each error says of the source: the reader's error; or its tree, and the least rule that is broken; or its legal program, and the first method
-- without a typing. OutOfMemory is for sources of which the reader may return it
abbrev pub IsErrorOf : List ℕ → SourceError → Type 0
IsErrorOf source (Unread error) = IsReadAnswer source (Err error) × (error ≢ UnreadForMemory)
IsErrorOf source (Illegal tree violation) = IsAnswer source (HasTree tree) × (least_broken tree ≡ Some (violation_number violation))
IsErrorOf source (Untyped program method failure) = IsAnswer source (HasTree program) × IsLegal program × IsFirstUntyped program method
IsErrorOf source OutOfMemory = IsReadAnswer source (Err UnreadForMemory)

-- the error of a source that the reader refuses
abbrev pub error_of_reading : ReadError → SourceError
error_of_reading UnreadForMemory = OutOfMemory
error_of_reading error = Unread error

-- the failure that reports an error: its number, or out of memory
abbrev pub failure_of_source : SourceError → Failure
failure_of_source (Unread error) = Refused (reading_number_of error)
failure_of_source (Illegal tree violation) = Refused (violation_number violation)
failure_of_source (Untyped program method failure) = Refused (typing_number_of (NoTyping method failure))
failure_of_source OutOfMemory = Memory

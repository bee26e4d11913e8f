-- What a failure of a search reports.
use Rattle.std.specs.Prelude.{◌≡◌, ℕ, List, Option, Some, slice_get, Result, Ok, Err}
use Rattle.flow_rules.specs.declared.entries.StackEntry.{StackEntry}
use Rattle.verifier.specs.declared.failures.Reason.{Reason}
use Rattle.verifier.specs.declared.failures.TypingError.{TypingError}
use Rattle.verifier.specs.declared.failures.TypingError.TheVariants.{Untyped, OutOfMemory}
use Rattle.verifier.specs.declared.search.RaiseError.{RaiseError}
use Rattle.verifier.specs.declared.search.RaiseError.TheVariants as OfRaise

-- the pc and the reason; out of memory says nothing of them
abbrev pub IsRefusedAt : ℕ → Reason → TypingError → Type 0
IsRefusedAt pc reason (Untyped failure) = (failure.pc ≡ pc) × (failure.reason ≡ reason)
IsRefusedAt pc reason OutOfMemory = Unit {0}

-- those of the step that failed
abbrev pub IsReportedOf : RaiseError → TypingError → Type 0
IsReportedOf (OfRaise.Refused pc reason) error = IsRefusedAt pc reason error
IsReportedOf OfRaise.OutOfMemory (Untyped failure) = ⊥
IsReportedOf OfRaise.OutOfMemory OutOfMemory = Unit {0}

-- a result for a step's result: done where it is done, and otherwise the failure of the step
abbrev pub IsAnsweredBy : {T : Type 0} → Result T RaiseError → Result T TypingError → Type 0
IsAnsweredBy (Ok done) (Ok answer) = Unit {0}
IsAnsweredBy (Ok done) (Err error) = ⊥
IsAnsweredBy (Err step) (Ok answer) = ⊥
IsAnsweredBy (Err step) (Err error) = IsReportedOf step error

-- an instruction and the stack before it
abbrev pub IsStackOf : ℕ → List StackEntry → TypingError → Type 0
IsStackOf pc before (Untyped failure) = (failure.pc ≡ pc) × (failure.instruction ≡ pc) × (failure.stack ≡ before)
IsStackOf pc before OutOfMemory = Unit {0}

-- the stack that a search has of a pc, where it has one
abbrev pub IsShown : List (Option (List StackEntry)) → ℕ → List StackEntry → Type 0
IsShown rows pc shown = (stack : List StackEntry) → slice_get rows pc ≡ Some (Some stack) → shown ≡ stack

-- the stack that the search has of the instruction at fault
abbrev pub IsEvidence : List (Option (List StackEntry)) → TypingError → Type 0
IsEvidence rows (Untyped failure) = IsShown rows failure.instruction failure.stack
IsEvidence rows OutOfMemory = Unit {0}

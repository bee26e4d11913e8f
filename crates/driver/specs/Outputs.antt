-- The outputs of a command, and how it is given up (this profile).
use Rattle.std.specs.Prelude.{◌≡◌, ◌⊎◌, ℕ, true, List, None, Option}
use Rattle.outputs.specs.Streams.{HasGrown, StreamState}
use Rattle.source_runs.specs.acceptance.Failures.{is_refusal}
use Rattle.source_runs.specs.acceptance.declared.failure.Failure.{Failure}
use Rattle.source_runs.specs.acceptance.declared.failure.Failure.TheVariants.{Device}
use Rattle.driver.specs.Records.{texts_of}
use Rattle.driver.specs.declared.command_outputs.Outputs.{Outputs}

-- what the standard output and the standard error have taken, and the texts of the files that are left: `o` before a command, and `o'` after it
pub record OutputState : Type 0 where
  pub out : StreamState
  pub err : StreamState
  pub texts : Option (List ℕ × List ℕ)

-- the state of the outputs of a command
abbrev pub output_state : {W E : Type 0} → (W → StreamState) → (E → StreamState) → Outputs W E → OutputState
output_state out_taken err_taken outputs = record { out = out_taken outputs.out; err = err_taken outputs.err; texts = texts_of outputs.files }

-- the state of two outputs, without files
abbrev pub outputs_without_files : StreamState → StreamState → OutputState
outputs_without_files out err = record { out = out; err = err; texts = None }

-- neither output was written to
abbrev pub IsUntouched : OutputState → OutputState → Type 0
IsUntouched o o' = (o'.out ≡ o.out) × (o'.err ≡ o.err)

-- a write to one of the outputs failed
abbrev pub HasFailedWrite : OutputState → OutputState → Type 0
HasFailedWrite o o' = HasGrown o.out.failures o'.out.failures ⊎ HasGrown o.err.failures o'.err.failures

-- A command is given up for a failure, for this reason. Nothing is printed of a refusal, and else nothing, or this part of what the command shows. A device
-- is reported only where a write failed. No files are left.
pub record IsGivenUp (IsReason : Failure → Type 0) (IsPart : OutputState → OutputState → Type 0) (o o' : OutputState) (failure : Failure) : Type 0 where
  pub reason : IsReason failure
  pub untouched : is_refusal failure ≡ true → IsUntouched o o'
  pub device : failure ≡ Device → HasFailedWrite o o'
  pub in_part : IsUntouched o o' ⊎ IsPart o o'
  pub same : o'.texts ≡ o.texts

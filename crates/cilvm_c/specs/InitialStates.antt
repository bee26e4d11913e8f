-- The outcome of a source that a host opens (this profile).
use Rattle.std.specs.Prelude.{◌≡◌, ◌⊎◌, [], ℕ, List, Some, None}
use Rattle.cil_model.specs.declared.limits.Limits.{Limits}
use Rattle.interleaving_core.specs.simulation.MachineStates.{MachineState}
use Rattle.acceptance.specs.Sources.{HasAcceptedTree, IsMade, IsNotAccepted, IsNotRun}
use Rattle.acceptance.specs.declared.failure.Failure.{Failure}
use Rattle.cilvm_c.specs.Codes.{failure_code}
use Rattle.cilvm_c.specs.Sessions.{SessionState}
use Rattle.cilvm_c.specs.declared.limits.HostLimits.{HostLimits}

-- the limits of the machine
abbrev pub run_limits : HostLimits → Limits
run_limits l = record { words = l.words; max_words = l.max_words; budget = l.budget; depth = l.depth }

-- 0 of an accepted source, otherwise the number of the reason why it is not accepted
abbrev pub IsChecked : List ℕ → ℕ → Type 0
IsChecked source code = ((code ≡ 0) × HasAcceptedTree source) ⊎ ((failure : Failure) × (code ≡ failure_code failure) × IsNotAccepted source failure)

-- 0 where the session has the machine of an accepted source, before its first event; otherwise it is closed, and the number says why no machine was
-- made
abbrev pub IsInitial : List ℕ → Limits → ℕ → ℕ → SessionState → Type 0
IsInitial source limits printed code new =
    ((code ≡ 0) × ((c : MachineState) × (new ≡ record { machine = Some c; most_printed = printed; reason = [] }) × IsMade source limits c))
    ⊎ ((new.machine ≡ None) × ((failure : Failure) × (code ≡ failure_code failure) × IsNotRun source limits failure))

-- the same by the limits of a host
abbrev pub IsInitialBy : List ℕ → HostLimits → ℕ → SessionState → Type 0
IsInitialBy source limits code new = IsInitial source (run_limits limits) limits.printed code new

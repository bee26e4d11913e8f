-- What is printed stays within a bound.
use Rattle.std.proofs.Common.{◌≡◌, ℕ, length, Option, Some, None, ap, inl, inr, arith}
use Rattle.interleaving_core.specs.simulation.MachineStates.{MachineState}
use Rattle.shared_machine.specs.Worlds.{IsPrintedWithin}

-- at the beginning
pub begins_within : (most : Option ℕ) (o core : MachineState) → core ≡ o → IsPrintedWithin most o core
begins_within None o core is = tt
begins_within (Some bytes) o core is = let same : length core.printed ≡ length o.printed = ap (λ (x : MachineState). length x.printed) is in inr (omega (arith, same))

-- where nothing is printed
pub same_within : (most : Option ℕ) (o c d : MachineState) → d.printed ≡ c.printed → IsPrintedWithin most o c → IsPrintedWithin most o d
same_within None o c d is within = tt
same_within (Some bytes) o c d is within =
    let same : length d.printed ≡ length c.printed = ap length is in
    elim within [ inl few ↦ inl (omega (arith, same, few)) | inr none ↦ inr (omega (arith, same, none)) ]

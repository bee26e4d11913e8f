use Rattle.std.proofs.Common.{◌≡◌, ◌++◌, take, drop}
use Rattle.std.specs.Prelude.{map, All, IfSome}
use Rattle.object_memory.specs.declared.addresses.Addr.{Addr}
use Rattle.threads_monitors.specs.Roots.{IsAnswer, reference_in, with_reference}
use Rattle.threads_monitors.proofs.frames.replace_in_values.Given as goal

abbrev pub invariant-loop-value : goal.invariant-loop-value
invariant-loop-value g l =
    (f : Addr → Addr) → All (λ v. IfSome (reference_in v) (IsAnswer (goal.F-pre g l.change) (goal.F-post g l.change) f)) l.fn.values →
    l.values ≡ map (with_reference f) (take l.value-index l.fn.values) ++ drop l.value-index l.fn.values

use Rattle.std.proofs.Common.{◌≡◌, ◌++◌, take, drop}
use Rattle.std.specs.Prelude.{map, All, IfSome}
use Rattle.object_memory.specs.declared.addresses.Addr.{Addr}
use Rattle.threads_monitors.specs.Roots.{IsAnswer}
use Rattle.threads_monitors.specs.Activations.{with_constructed}
use Rattle.threads_monitors.proofs.frames.replace_in_activations.Given as goal

abbrev pub invariant-loop-activation : goal.invariant-loop-activation
invariant-loop-activation g l =
    (f : Addr → Addr) → All (λ a. IfSome a.constructed (IsAnswer (goal.F-pre g l.change) (goal.F-post g l.change) f)) l.fn.activations →
    l.activations ≡ map (with_constructed f) (take l.activation-index l.fn.activations) ++ drop l.activation-index l.fn.activations

-- Runs of local instructions, one after another.
use Rattle.std.proofs.Common.{◌≡◌, ◌<◌, ◌≤◌, ◌+◌, ◌-◌, ℕ, zero, suc, inl, inr, subst, sym, arith}
use Rattle.std.specs.Prelude.{min}
use native.Mathlib.Decide.{ℕ_discrete}
use mathlib.Core.Logic.{dite}
use Rattle.cil_model.specs.declared.trees.Tree.{Tree}
use Rattle.threads_monitors.specs.Frames.{Frame}
use Rattle.simulation.specs.interpreter.Local.{AreLocalSteps, EndsLocal, IsReadySomewhere}
use Rattle.simulation.specs.MachineStates.{frame_room}
use Rattle.interleaving_core.specs.Loans.{IsLent, IsLocalRun, Lent}

module _ (tree : Tree) (room : ℕ) where
  pub steps_after : (n k : ℕ) (f g h : Frame) → AreLocalSteps tree room n f g → AreLocalSteps tree room k g h → AreLocalSteps tree room (n + k) f h
  steps_after n zero f g h before more =
      let same : n ≡ n + 0 = omega arith in
      subst (λ (x : Frame). AreLocalSteps tree room (n + 0) f x) (sym more) (subst (λ m. AreLocalSteps tree room m f g) same before)
  steps_after n (suc k) f g h before (next, more, step) =
      let same : suc (n + k) ≡ n + suc k = omega arith in
      subst (λ m. AreLocalSteps tree room m f h) same (next, steps_after n k f g next before more, step)

-- where a loan continues
pub continues : (l : Lent) → IsLent l → (n : ℕ) (g : Frame) → l.done + n < l.left → AreLocalSteps l.tree frame_room n l.frame g → IsReadySomewhere l.tree frame_room g
continues l lent n g less steps = lent.ready (l.done + n) g less (steps_after l.tree frame_room l.done n l.origin l.frame g lent.steps steps)

-- a run that is bounded by the steps that are left, but for the last one
pub local_run : (tree : Tree) (left most bound n room : ℕ) (f g : Frame) → room ≡ frame_room → 0 < left → bound ≡ min most (left - 1) → AreLocalSteps tree room n f g → n ≤ bound → (n < bound → EndsLocal tree room g)
    → IsLocalRun tree left f most n g
local_run tree left most bound n room f g same some bound_is steps few ends = record {
  steps = subst (λ r. AreLocalSteps tree r n f g) same steps;
  few = omega (arith, few, bound_is);
  less = omega (arith, few, bound_is, some);
  stops = λ less. dite (ℕ_discrete n bound)
      (λ last. inr (omega (arith, last, less, bound_is, some)))
      (λ early. inl (subst (λ r. EndsLocal tree r g) same (ends (omega (arith, early, few)))));
}

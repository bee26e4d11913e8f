-- Local instructions of the top frame lead to frames that are further.
use Rattle.std.proofs.Common.{ℕ, zero, suc, List, sym, subst}
use Rattle.exploration.proofs.Names.{Tree, AreLocalSteps, IsLocalStep, frames_over, Frame, Frames, IsAhead, here, onward, IsLocalMove}

module _ (tree : Tree) (room : ℕ) (below : List Frame) (depth : ℕ) where
  abbrev over : Frame → Frames
  over f = frames_over f below depth room

  pub step_moves : (f g : Frame) → IsLocalStep tree room f g → IsLocalMove tree (over f) (over g)
  step_moves f g step = record { done = step.done below depth }

  -- one more after others
  further_then : (m n k : Frames) → IsAhead tree m n → IsLocalMove tree n k → IsAhead tree m k
  further_then m _ k (here _) move = onward m k k move (here k)
  further_then m n k (onward _ next _ first rest) move = onward m next k first (further_then next n k rest move)

  pub steps_further : (n : ℕ) (f g : Frame) → AreLocalSteps tree room n f g → IsAhead tree (over f) (over g)
  steps_further zero f g same = subst (λ (x : Frame). IsAhead tree (over f) (over x)) (sym same) (here (over f))
  steps_further (suc n) f g (next, before, step) = further_then (over f) (over next) (over g) (steps_further n f next before) (step_moves next g step)

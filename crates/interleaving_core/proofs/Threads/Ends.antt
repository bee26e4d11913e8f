-- The ends of threads, one after another.
use Rattle.std.proofs.Common.{◌≡◌, ◌<◌, ℕ, zero, suc, List, [], ◌∷◌, ◌++◌, length, take, map, arith, refl, ap}
use Rattle.threads_monitors.specs.Threads.{end_of}
use Rattle.threads_monitors.specs.declared.threads.Thread.{Thread}
use Rattle.interleaving_core.specs.Views.{end_at}

-- an end more
pub ends_more : (threads : List Thread) (t : ℕ) → t < length threads → take t (map end_of threads) ++ end_at threads t ∷ [] ≡ take (suc t) (map end_of threads)
ends_more [] t below = absurd (omega (arith, below))
ends_more (x ∷ xs) zero below = refl
ends_more (x ∷ xs) (suc t) below = ap (λ es. end_of x ∷ es) (ends_more xs t (omega (arith, below)))

use Rattle.std.proofs.Common.{◌≡◌, ap}
use Rattle.std.specs.Bool.{Decides}
use Rattle.std.proofs.lemmas.Bool.Decides.{Decides-eqb, Decides-int_eq}
use Rattle.std.proofs.lemmas.Slice.Eq.{slice_eq-Decides}
use Rattle.object_memory.specs.declared.values.Value.{Value}
use Rattle.object_memory.specs.declared.values.Value.TheVariants.{Int32, Int64, Native, Ref}
use Rattle.object_memory.specs.contracts.values.ValuePartialEq.TheImpl as value_eq
use Rattle.threads_monitors.proofs.frames.are_same.Goals as goal

decides : (a b : Value) → Decides (value_eq.eq-value.it a b) (a ≡ b)
decides (Int32 x) (Int32 y) = let h = Decides-int_eq x y in (λ e. ap Int32 (h.0 e), λ e. h.1 (cc))
decides (Int64 x) (Int64 y) = let h = Decides-int_eq x y in (λ e. ap Int64 (h.0 e), λ e. h.1 (cc))
decides (Native x) (Native y) = let h = Decides-int_eq x y in (λ e. ap Native (h.0 e), λ e. h.1 (cc))
decides (Ref x) (Ref y) = let h = Decides-eqb x.number y.number in (λ e. ap (λ (n : _). Ref (record { number = n })) (h.0 e), λ e. h.1 (cc))
decides _ _ = (λ e. absurd (cc), λ e. absurd (cc))

pub returns : goal.returns
returns c = slice_eq-Decides decides _ _ _ c.eq.ensures

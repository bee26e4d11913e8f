-- Results of a machine that represent those of the reference machine, wherever the reference machine has one.
use Rattle.std.proofs.Common.{◌≡◌, ℕ, zero, suc, Bool, not, List, [], ◌∷◌, Option, Some, None, Result, Ok, Err, slice_get, refl, ap}
use Rattle.interpreter.specs.cil_model.declared.reports.Fault.{Fault}
use Rattle.interpreter.specs.reference_machine.Values.{Value as StateValue}
use Rattle.interpreter.specs.reference_machine.Arithmetic.{not_option}
use Rattle.interpreter.specs.object_memory.declared.values.Value.{Value}
use Rattle.simulation.specs.Agreement.{Agree}
use Rattle.simulation.specs.Refines.{Names, IsValue}

-- where there is a result of the second machine, the first has one too, and they stand in the relation
abbrev pub Meets : {X Y : Type 0} → (X → Y → Type 0) → Option X → Option Y → Type 0
Meets R o None = Unit {0}
Meets R (Some x) (Some y) = R x y
Meets R None (Some y) = ⊥

-- the same value, or the same fault
abbrev pub IsResult : Names → Result Value Fault → Result StateValue Fault → Type 0
IsResult name (Ok v) (Ok u) = IsValue name v u
IsResult name (Err f) (Err g) = f ≡ g
IsResult name (Ok v) (Err g) = ⊥
IsResult name (Err f) (Ok u) = ⊥

-- the same test
abbrev pub Same : Bool → Bool → Type 0
Same a b = a ≡ b

-- the opposite one
abbrev pub Opposite : Bool → Bool → Type 0
Opposite a b = not a ≡ b

-- a result meets itself
pub meets_itself : (o : Option Bool) → Meets Same o o
meets_itself None = tt
meets_itself (Some b) = refl

-- the opposite of the one that it meets
pub meets_opposite : (o p : Option Bool) → Meets Same o p → Meets Opposite o (not_option p)
meets_opposite o None h = tt
meets_opposite (Some a) (Some b) h = ap not h
meets_opposite None (Some b) h = elim h [ ]

-- elements at one index of agreeing lists
pub meets_at : {X Y : Type 0} (R : X → Y → Type 0) (xs : List X) (ys : List Y) → Agree R xs ys → (n : ℕ) → Meets R (slice_get xs n) (slice_get ys n)
meets_at R [] [] h n = tt
meets_at R (x ∷ xs) (y ∷ ys) h zero = h.0
meets_at R (x ∷ xs) (y ∷ ys) h (suc n) = meets_at R xs ys h.1 n
meets_at R _ _ h n = elim h [ ]

-- The monitors of literals and objects after a store or a birth: each stays but the one that was stored.
use Rattle.std.proofs.Common.{◌≡◌, ◌≢◌, ℕ, zero, suc, ◌+◌, ◌-◌, Bool, true, false, List, [], ◌∷◌, refl, ap, arith}
use Rattle.std.specs.Prelude.{nat_lt, if◌then◌else◌, slice_get, slice_set, Option, Some, None, IsSome, option_map}
use Rattle.std.specs.Option.{option_map_or}
use Rattle.std.proofs.Math.ListN.{length-set}
use Rattle.std.proofs.lemmas.Bool.Decides.{nat_tests}
use Rattle.object_memory.specs.declared.addresses.Addr.{Addr}
use Rattle.object_memory.specs.declared.addresses.TheConstants.{FIRST_LITERAL}
use Rattle.object_memory.specs.declared.kinds.Kind.{Kind}
use Rattle.object_memory.specs.declared.monitors.Monitor.{Monitor}
use Rattle.object_memory.specs.Cells.{Cell, size, null, literal, literal_number, store_slot, store_monitor}
use Rattle.object_memory.specs.Spaces.{AreSpaces, cell_at, change_at, birth_space_of}
use Rattle.object_memory.specs.Objects.{Objects, with_birth, with_cell, with_literal_monitor, with_slot, monitor_at, with_monitor}
use Rattle.cil_model.specs.declared.phases.Phase.{Phase}
use Rattle.object_memory.proofs.TwoSpaces.TwoBlocks.{change-own, change-other}
use Rattle.object_memory.proofs.Births.{birth_at-kept}
use Rattle.object_memory.proofs.ChangedCells.{kept_at}

-- ---- addresses of literals

number_by : (b : Bool) (a : Addr) (n : ℕ) → nat_lt a.number FIRST_LITERAL ≡ b → (if b then None else Some (a.number - FIRST_LITERAL)) ≡ Some n → a.number ≡ FIRST_LITERAL + n
number_by true a n test e = absurd cc
number_by false a n test e = let far : a.number - FIRST_LITERAL ≡ n = cc in grind (arith, nat_tests)

-- the number of a literal's address
literal_address : (a : Addr) (n : ℕ) → literal_number a ≡ Some n → a.number ≡ FIRST_LITERAL + n
literal_address a n e = number_by (nat_lt a.number FIRST_LITERAL) a n refl e

pub literal_number_of : (n : ℕ) → literal_number (literal n) ≡ Some n
literal_number_of n =
    let test : nat_lt (FIRST_LITERAL + n) FIRST_LITERAL ≡ false = grind (arith, nat_tests) in
    let back : FIRST_LITERAL + n - FIRST_LITERAL ≡ n = omega arith in
    rw (test, back) refl

pub literal_same : (n m : ℕ) → literal n ≡ literal m → n ≡ m
literal_same n m e = let numbers = ap (λ (a : Addr). a.number) e in omega (arith, numbers)

pub literal_not_null : (n : ℕ) → literal n ≢ null
literal_not_null n e = let numbers = ap (λ (a : Addr). a.number) e in absurd (omega (arith, numbers))

-- ---- lists of monitors

set_own : (ms : List Monitor) (n : ℕ) (m : Monitor) → IsSome (slice_get ms n) → slice_get (slice_set ms n m) n ≡ Some m
set_own [] n m some = absurd cc
set_own (x ∷ xs) zero m some = refl
set_own (x ∷ xs) (suc n) m some = set_own xs n m some

set_other : (ms : List Monitor) (n k : ℕ) (m : Monitor) → n ≢ k → slice_get (slice_set ms n m) k ≡ slice_get ms k
set_other [] n k m ne = refl
set_other (x ∷ xs) zero zero m ne = elim (ne refl) [ ]
set_other (x ∷ xs) zero (suc k) m ne = refl
set_other (x ∷ xs) (suc n) zero m ne = refl
set_other (x ∷ xs) (suc n) (suc k) m ne = set_other xs n k m (λ e. ne (ap suc e))

-- ---- what a store leaves of each cell

abbrev monitor_of : Option Cell → Option Monitor
monitor_of o = option_map (λ (c : Cell). c.monitor) o

module _ (f : Cell → Cell) (sizes : (c : Cell) → size (f c) ≡ size c) (monitors : (c : Cell) → (f c).monitor ≡ c.monitor) where
  kept_by : (o : Objects) (a b : Addr) (n : Option ℕ) → literal_number b ≡ n → monitor_at (with_cell f o a) b ≡ monitor_at o b
  kept_by o a b (Some n) e = rw e refl
  kept_by o a b None e = rw e (kept_at (λ c. c.monitor) f sizes monitors o.spaces a b)

  cell_keeps_monitors : (o : Objects) (a b : Addr) → monitor_at (with_cell f o a) b ≡ monitor_at o b
  cell_keeps_monitors o a b = kept_by o a b (literal_number b) refl

pub slot_keeps_monitors : (o : Objects) (a b : Addr) (i w : ℕ) → monitor_at (with_slot o a i w) b ≡ monitor_at o b
slot_keeps_monitors o a b i w = cell_keeps_monitors (store_slot i w) (λ c. ap (λ n. 3 + n) (length-set c.slots i w)) (λ c. refl) o a b

-- ---- the monitor that is stored, and all others

module _ (o : Objects) (m : Monitor) where
  some_own : (a : Addr) (c : Option Cell) → cell_at o.spaces a ≡ c → IsSome (monitor_of c) → monitor_of (cell_at (change_at (store_monitor m) o.spaces a) a) ≡ Some m
  some_own a None e some = absurd cc
  some_own a (Some c) e some = rw (change-own (store_monitor m) o.spaces a c e) refl

  own_by : (a : Addr) (n : Option ℕ) → literal_number a ≡ n
      → IsSome (option_map_or (slice_get o.literals) n (monitor_of (cell_at o.spaces a)))
      → option_map_or (slice_get (option_map_or (with_literal_monitor o m) n (with_cell (store_monitor m) o a)).literals) n
      (monitor_of (cell_at (option_map_or (with_literal_monitor o m) n (with_cell (store_monitor m) o a)).spaces a)) ≡ Some m
  own_by a (Some n) e some = set_own o.literals n m some
  own_by a None e some = some_own a (cell_at o.spaces a) refl some

  pub monitor_found : (a : Addr) → IsSome (monitor_at o a) → monitor_at (with_monitor o a m) a ≡ Some m
  monitor_found a some = own_by a (literal_number a) refl some

  module _ (a b : Addr) (ne : a.number ≢ b.number) where
    other_literal : (n k : ℕ) → literal_number a ≡ Some n → literal_number b ≡ Some k → n ≢ k
    other_literal n k e f same =
        let first = literal_address a n e in
        let second = literal_address b k f in
        ne (omega (arith, first, second, same))

    others_by : (n k : Option ℕ) → literal_number a ≡ n → literal_number b ≡ k
        → option_map_or (slice_get (option_map_or (with_literal_monitor o m) n (with_cell (store_monitor m) o a)).literals) k
        (monitor_of (cell_at (option_map_or (with_literal_monitor o m) n (with_cell (store_monitor m) o a)).spaces b))
        ≡ option_map_or (slice_get o.literals) k (monitor_of (cell_at o.spaces b))
    others_by (Some n) (Some k) e f = set_other o.literals n k m (other_literal n k e f)
    others_by (Some n) None e f = refl
    others_by None (Some k) e f = refl
    others_by None None e f = ap monitor_of (change-other (store_monitor m) (λ c. refl) o.spaces a b ne)

    pub monitors_stay : monitor_at (with_monitor o a m) b ≡ monitor_at o b
    monitors_stay = others_by (literal_number a) (literal_number b) refl refl

-- ---- a birth

module _ (o : Objects) (h : AreSpaces o.spaces) (k : Kind) (n : ℕ) (phase : Phase) (m : Monitor) (a : Addr) where
  born_cell : (c : Option Cell) → cell_at o.spaces a ≡ c → monitor_of c ≡ Some m → monitor_of (cell_at (with_birth phase o k n).0.spaces a) ≡ Some m
  born_cell None e same = absurd cc
  born_cell (Some c) e same = rw (birth_at-kept o.spaces h k n (birth_space_of phase o.spaces.is_open) a c e) same

  born_by : (l : Option ℕ) → literal_number a ≡ l → option_map_or (slice_get o.literals) l (monitor_of (cell_at o.spaces a)) ≡ Some m
      → option_map_or (slice_get o.literals) l (monitor_of (cell_at (with_birth phase o k n).0.spaces a)) ≡ Some m
  born_by (Some l) e same = same
  born_by None e same = born_cell (cell_at o.spaces a) refl same

  pub birth_keeps_monitors : monitor_at o a ≡ Some m → monitor_at (with_birth phase o k n).0 a ≡ Some m
  birth_keeps_monitors same = born_by (literal_number a) refl same

-- What is the same of each cell after a change is the same of what lies at each address.
use Rattle.std.proofs.Common.{◌≡◌, ℕ, ◌+◌, Bool, true, false, List, [], ◌∷◌, refl, ap}
use Rattle.std.specs.Prelude.{◌==◌, if◌then◌else◌, Option, Some, None, option_map}
use Rattle.object_memory.specs.declared.addresses.Addr.{Addr}
use Rattle.object_memory.specs.Cells.{Cell, size, cell_from, change_from}
use Rattle.object_memory.specs.Spaces.{Spaces, first_of, cell_at, change_at}

module _ {X : Type 0} (g : Cell → X) (f : Cell → Cell) (sizes : (c : Cell) → size (f c) ≡ size c) (keeps : (c : Cell) → g (f c) ≡ g c) where
  kept_from : (at : ℕ) (cs : List Cell) (a b : ℕ) → option_map g (cell_from at (change_from f at cs a) b) ≡ option_map g (cell_from at cs b)
  kept_from at [] a b = refl
  kept_from at (x ∷ xs) a b = kept_by (a == at) (b == at) refl (kept_from (at + size x) xs a b)
    where
      kept_by : (s t : Bool) → (b == at) ≡ t
          → option_map g (cell_from (at + size x) (change_from f (at + size x) xs a) b) ≡ option_map g (cell_from (at + size x) xs b)
          → option_map g (cell_from at (if s then f x ∷ xs else x ∷ change_from f (at + size x) xs a) b) ≡ option_map g (cell_from at (x ∷ xs) b)
      kept_by true true test rest = rw test (ap Some (keeps x))
      kept_by true false test rest = rw (test, sizes x) refl
      kept_by false true test rest = rw test refl
      kept_by false false test rest = rw test rest

  -- in either block
  in_both : (x x' y y' : Option Cell) → option_map g x' ≡ option_map g x → option_map g y' ≡ option_map g y → option_map g (first_of x' y') ≡ option_map g (first_of x y)
  in_both None None y y' e e' = e'
  in_both (Some c) (Some d) y y' e e' = e
  in_both _ _ y y' e e' = absurd cc

  pub kept_at : (m : Spaces) (a b : Addr) → option_map g (cell_at (change_at f m a) b) ≡ option_map g (cell_at m b)
  kept_at m a b =
      in_both (cell_from m.old.start m.old.cells b.number) (cell_from m.old.start (change_from f m.old.start m.old.cells a.number) b.number)
      (cell_from m.new.start m.new.cells b.number) (cell_from m.new.start (change_from f m.new.start m.new.cells a.number) b.number)
      (kept_from m.old.start m.old.cells a.number b.number) (kept_from m.new.start m.new.cells a.number b.number)

-- Whether an object has another copy, and that what is new stays new where each new object does.
use Rattle.std.proofs.Common.{◌≡◌, ◌≢◌, true, refl, ap}
use Rattle.std.specs.Prelude.{is_some, Option, Some, None}
use Rattle.object_memory.specs.declared.addresses.Addr.{Addr}
use Rattle.object_memory.specs.Cells.{Cell, cell_in}
use Rattle.object_memory.specs.Spaces.{Spaces}
use Rattle.collector.specs.References.{is_permanent}
use Rattle.collector.specs.Phases.{is_new, is_new_address}
use Rattle.collector.proofs.Addresses.Disjunctions.{or_more}
use Rattle.collector.proofs.Addresses.Tests.{some_there}

pub other_there : {A : Type 0} (o : Option A) → o ≢ None → (x : A) × (o ≡ Some x)
other_there None ne = absurd (ne refl)
other_there (Some x) ne = (x, refl)

pub some_is_other : {A : Type 0} (o : Option A) (x : A) → o ≡ Some x → o ≢ None
some_is_other o x e none = absurd cc

-- where each new object stays one, what is new stays new
pub new_stays : (m n : Spaces) → ((a : Addr) (d : Cell) → cell_in m.new a ≡ Some d → (e : Cell) × (cell_in n.new a ≡ Some e)) → (a : Addr) → is_new_address m a ≡ true → is_new_address n a ≡ true
new_stays m n kept a h = or_more (is_permanent a) (is_new m a) (is_new n a) more h
  where
    more : is_new m a ≡ true → is_new n a ≡ true
    more passes =
        let d = some_there (cell_in m.new a) passes in
        let e = kept a d.0 d.1 in
        ap is_some e.1

-- What a live address is; and where blocks only gain, what passes a test of addresses continues to pass it.
use Rattle.std.proofs.Common.{◌≡◌, Bool, true, false, ◌||◌, Some, refl}
use Rattle.cil_model.specs.declared.phases.Phase.{Phase}
use Rattle.cil_model.specs.declared.phases.Phase.TheVariants.{Idle, Mark, Allocate, Copy, Reclaim}
use Rattle.object_memory.specs.declared.addresses.Addr.{Addr}
use Rattle.object_memory.specs.Cells.{Cell, cell_in}
use Rattle.object_memory.specs.Spaces.{Spaces, AreSpaces, forward, is_old}
use Rattle.object_memory.proofs.TwoSpaces.TwoBlocks.{forward_else}
use Rattle.collector.specs.References.{is_permanent}
use Rattle.collector.specs.Phases.{is_live, is_live_object, is_marked_address, is_marked_old, is_new, is_new_address}
use Rattle.collector.specs.Holds.{AnyLive, Hold, MarkedOnly, NewOnly, passes}
use Rattle.collector.proofs.Addresses.Disjunctions.{or_both, or_more}
use Rattle.collector.proofs.Addresses.Tests.{marked_there, permanent_not_old, some_there}

-- null and literals are their own forwards
pub forward_permanent : (m : Spaces) → AreSpaces m → (a : Addr) → is_permanent a ≡ true → forward m a ≡ a
forward_permanent m h a e = forward_else m a (permanent_not_old m h a e)

-- ---- what a live address is

pub data IsLying (m : Spaces) (a : Addr) : Type 0 where
  permanent : is_permanent a ≡ true → IsLying m a
  in_old : (c : Cell) → cell_in m.old a ≡ Some c → IsLying m a
  in_new : (c : Cell) → cell_in m.new a ≡ Some c → IsLying m a

module _ (m : Spaces) (a : Addr) where
  -- by each test
  old_lies : is_old m a ≡ true → IsLying m a
  old_lies e = let c = some_there (cell_in m.old a) e in in_old c.0 c.1

  marked_lies : is_marked_old m a ≡ true → IsLying m a
  marked_lies e = let c = marked_there (cell_in m.old a) e in in_old c.0 c.1

  new_lies : is_new m a ≡ true → IsLying m a
  new_lies e = let c = some_there (cell_in m.new a) e in in_new c.0 c.1

  by_either : (x y : Bool) → (x || y) ≡ true → (x ≡ true → IsLying m a) → (y ≡ true → IsLying m a) → IsLying m a
  by_either true y e f g = f refl
  by_either false y e f g = g e

  object_lies : (posted_phase : Phase) → is_live_object posted_phase m a ≡ true → IsLying m a
  object_lies Idle e = old_lies e
  object_lies Mark e = old_lies e
  object_lies Allocate e = marked_lies e
  object_lies Copy e = marked_lies e
  object_lies Reclaim e = new_lies e
  object_lies _ e = by_either (is_marked_old m a) (is_new m a) e marked_lies new_lies

  -- a live address is that of null, a literal or a cell
  pub live_lies : (posted_phase : Phase) → is_live posted_phase m a ≡ true → IsLying m a
  live_lies posted_phase e = by_either (is_permanent a) (is_live_object posted_phase m a) e permanent (object_lies posted_phase)

-- ---- what passes

-- what is old, marked or new stays so
pub record TestsStay (m m' : Spaces) : Type 0 where
  pub old : (a : Addr) → is_old m a ≡ true → is_old m' a ≡ true
  pub marked : (a : Addr) → is_marked_old m a ≡ true → is_marked_old m' a ≡ true
  pub new : (a : Addr) → is_new m a ≡ true → is_new m' a ≡ true

module _ (m m' : Spaces) (stay : TestsStay m m') (a : Addr) where
  -- what is marked or new stays so
  both_stay : (is_marked_old m a || is_new m a) ≡ true → (is_marked_old m' a || is_new m' a) ≡ true
  both_stay e = or_both (is_marked_old m a) (is_new m a) (is_marked_old m' a) (is_new m' a) (stay.marked a) (stay.new a) e

  -- a live object stays live
  object_stays : (posted_phase : Phase) → is_live_object posted_phase m a ≡ true → is_live_object posted_phase m' a ≡ true
  object_stays Idle e = stay.old a e
  object_stays Mark e = stay.old a e
  object_stays Allocate e = stay.marked a e
  object_stays Copy e = stay.marked a e
  object_stays Reclaim e = stay.new a e
  object_stays _ e = both_stay e

  -- so does a live address,
  pub live_stays : (posted_phase : Phase) → is_live posted_phase m a ≡ true → is_live posted_phase m' a ≡ true
  live_stays posted_phase e = or_more (is_permanent a) (is_live_object posted_phase m a) (is_live_object posted_phase m' a) (object_stays posted_phase) e

  -- a marked one,
  pub marked_stays : is_marked_address m a ≡ true → is_marked_address m' a ≡ true
  marked_stays e = or_more (is_permanent a) (is_marked_old m a) (is_marked_old m' a) (stay.marked a) e

  -- and a new one
  pub new_stays : is_new_address m a ≡ true → is_new_address m' a ≡ true
  new_stays e = or_more (is_permanent a) (is_new m a) (is_new m' a) (stay.new a) e

  -- what may be held stays so, for each hold
  pub passes_stays : (hold : Hold) (posted_phase : Phase) → passes hold posted_phase m a ≡ true → passes hold posted_phase m' a ≡ true
  passes_stays AnyLive posted_phase e = live_stays posted_phase e
  passes_stays MarkedOnly posted_phase e = marked_stays e
  passes_stays NewOnly posted_phase e = new_stays e

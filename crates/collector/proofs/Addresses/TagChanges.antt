-- A change of one cell that keeps its kind, number of slots, mark and other copy keeps which addresses are old, marked and new, and all forwards.
use Rattle.std.proofs.Common.{◌≡◌, ℕ, ◌+◌, Bool, true, false, length, refl, sym, ap, ◌∙◌, subst, arith}
use Rattle.std.specs.Prelude.{◌==◌, if◌then◌else◌, is_some, option_map, unwrap_or, ◌||◌, Option, Some, None}
use Rattle.std.proofs.lemmas.Bool.Decides.{nat_tests}
use Rattle.cil_model.specs.declared.phases.Phase.{Phase}
use Rattle.cil_model.specs.declared.phases.Phase.TheVariants.{Idle, Mark, Allocate, Copy, Reclaim}
use Rattle.object_memory.specs.declared.addresses.Addr.{Addr}
use Rattle.object_memory.specs.declared.monitors.Monitor.{Monitor}
use Rattle.object_memory.specs.Cells.{Cell, Cells, size, cell_in, change_in, store_monitor, store_slot}
use Rattle.object_memory.specs.Spaces.{Spaces, change_at, change_if, change_copies, forward, is_old, other_of, cell_at}
use Rattle.std.proofs.Math.ListN.{length-set}
use Rattle.object_memory.proofs.Blocks.{own_in, other_in, unchanged_in}
use Rattle.collector.specs.References.{is_permanent}
use Rattle.collector.specs.Phases.{is_live, is_live_object, is_marked_address, is_marked_cell, is_marked_old, is_new, is_new_address}
use Rattle.collector.specs.Holds.{Hold, AnyLive, MarkedOnly, NewOnly, passes}

-- ---- what changes keep

-- a change of a cell that keeps its kind, how many slots it has, its mark and its other copy
pub record KeepsTags (f : Cell → Cell) : Type 0 where
  pub kind : (c : Cell) → (f c).kind ≡ c.kind
  pub count : (c : Cell) → length (f c).slots ≡ length c.slots
  pub marked : (c : Cell) → (f c).marked ≡ c.marked
  pub other : (c : Cell) → (f c).other ≡ c.other

-- such a change keeps the size
pub keeps_size : (f : Cell → Cell) → KeepsTags f → (c : Cell) → size (f c) ≡ size c
keeps_size f keeps c = ap (λ n. 3 + n) (keeps.count c)

-- a store to a slot is such a change
pub slot_keeps_tags : (slot word : ℕ) → KeepsTags (store_slot slot word)
slot_keeps_tags slot word = record { kind = λ c. refl; count = λ c. length-set c.slots slot word; marked = λ c. refl; other = λ c. refl }

-- a store of a monitor is such a change
pub monitor_keeps_tags : (m : Monitor) → KeepsTags (store_monitor m)
monitor_keeps_tags m = record { kind = λ c. refl; count = λ c. refl; marked = λ c. refl; other = λ c. refl }

-- the cell of one address changed
abbrev pub only_at : (Cell → Cell) → Addr → Addr → Cell → Cell
only_at f a x c = if a.number == x.number then f c else c

-- and so is one at one address alone
pub only_keeps_tags : (f : Cell → Cell) → KeepsTags f → (a x : Addr) → KeepsTags (only_at f a x)
only_keeps_tags f keeps a x = by_test (a.number == x.number)
  where
    by_test : (t : Bool) → KeepsTags (λ c. if t then f c else c)
    by_test true = record { kind = keeps.kind; count = keeps.count; marked = keeps.marked; other = keeps.other }
    by_test false = record { kind = λ c. refl; count = λ c. refl; marked = λ c. refl; other = λ c. refl }

-- ---- addresses

-- addresses of one number are one
pub same_address : (a x : Addr) → (a.number == x.number) ≡ true → a ≡ x
same_address a x test = let is : a.number ≡ x.number = grind (arith, nat_tests) in ap (λ (n : ℕ). record { number = n }) is

-- addresses of two numbers are two
pub other_address : {A : Type 0} (a x : Addr) → (a.number == x.number) ≡ false → a ≡ x → A
other_address a x test same = let is : a.number ≡ x.number = ap (λ (y : Addr). y.number) same in absurd (grind (arith, nat_tests))

-- ---- one block

map_itself : (o : Option Cell) → option_map (λ (c : Cell). c) o ≡ o
map_itself None = refl
map_itself (Some c) = refl

-- what lies where after a change of the cell at an address, also where none lies there
pub changed_is : (f : Cell → Cell) → ((c : Cell) → size (f c) ≡ size c) → (s : Cells) (a x : Addr) → cell_in (change_in f s a) x ≡ option_map (only_at f a x) (cell_in s x)
changed_is f keeps s a x = by_test (a.number == x.number) refl
  where
    at_own : (o : Option Cell) → cell_in s a ≡ o → cell_in (change_in f s a) a ≡ option_map f o
    at_own None none = ap (λ (z : Cells). cell_in z a) (unchanged_in f s a none) ∙ none
    at_own (Some c) some = own_in f s a c some

    by_test : (t : Bool) → (a.number == x.number) ≡ t → cell_in (change_in f s a) x ≡ option_map (λ (c : Cell). if t then f c else c) (cell_in s x)
    by_test true test =
        let same = same_address a x test in
        subst (λ (y : Addr). cell_in (change_in f s a) y ≡ option_map f (cell_in s y)) same (at_own (cell_in s a) refl ∙ refl)
    by_test false test = other_in f keeps s a x (λ e. absurd (grind (arith, nat_tests))) ∙ sym (map_itself (cell_in s x))

-- what is read of a cell alike before and after the change is read alike at each address
pub read_alike : {X : Type 0} (read : Option Cell → X) (f : Cell → Cell) → ((c : Cell) → size (f c) ≡ size c) → ((c : Cell) → read (Some (f c)) ≡ read (Some c)) → (s : Cells) (a x : Addr)
    → read (cell_in (change_in f s a) x) ≡ read (cell_in s x)
read_alike read f keeps alike s a x = ap read (changed_is f keeps s a x) ∙ by_cell (a.number == x.number) (cell_in s x)
  where
    by_cell : (t : Bool) (o : Option Cell) → read (option_map (λ (c : Cell). if t then f c else c) o) ≡ read o
    by_cell t None = refl
    by_cell true (Some c) = alike c
    by_cell false (Some c) = refl

-- ---- two blocks

-- the cell at one address of the old block changed, and the one at another of the new block
abbrev pub twice : (f g : Cell → Cell) → Spaces → (a b : Addr) → Spaces
twice f g m a b = record m { old = change_in f m.old a; new = change_in g m.new b }

-- the same addresses are old, marked and new, with the same forwards
pub record AreAlike (m n : Spaces) : Type 0 where
  pub old : (x : Addr) → is_old n x ≡ is_old m x
  pub marked : (x : Addr) → is_marked_old n x ≡ is_marked_old m x
  pub new : (x : Addr) → is_new n x ≡ is_new m x
  pub forwards : (x : Addr) → forward n x ≡ forward m x
  pub grey : n.grey ≡ m.grey
  pub has_marked : n.has_marked ≡ m.has_marked

-- nothing changes
pub alike_itself : (m : Spaces) → AreAlike m m
alike_itself m = record { old = λ x. refl; marked = λ x. refl; new = λ x. refl; forwards = λ x. refl; grey = refl; has_marked = refl }

-- one change and then another
pub alike_then : (m n o : Spaces) → AreAlike m n → AreAlike n o → AreAlike m o
alike_then m n o first second = record {
  old = λ x. second.old x ∙ first.old x;
  marked = λ x. second.marked x ∙ first.marked x;
  new = λ x. second.new x ∙ first.new x;
  forwards = λ x. second.forwards x ∙ first.forwards x;
  grey = second.grey ∙ first.grey;
  has_marked = second.has_marked ∙ first.has_marked;
}

-- a change of one cell of each block
pub twice_alike : (f g : Cell → Cell) → KeepsTags f → KeepsTags g → (m : Spaces) (a b : Addr) → AreAlike m (twice f g m a b)
twice_alike f g keeps keeps' m a b = record {
  old = λ x. read_alike is_some f (keeps_size f keeps) (λ c. refl) m.old a x;
  marked = λ x. read_alike is_marked_cell f (keeps_size f keeps) keeps.marked m.old a x;
  new = λ x. read_alike is_some g (keeps_size g keeps') (λ c. refl) m.new b x;
  forwards = λ x. ap (λ (o : Option Addr). unwrap_or o x) (read_alike other_of f (keeps_size f keeps) keeps.other m.old a x);
  grey = refl;
  has_marked = refl;
}

-- a change of the cell at an address
pub change_alike : (f : Cell → Cell) → KeepsTags f → (m : Spaces) (a : Addr) → AreAlike m (change_at f m a)
change_alike f keeps m a = twice_alike f f keeps keeps m a a

-- a change of both copies of an object
pub copies_alike : (f g : Cell → Cell) → KeepsTags f → KeepsTags g → (m : Spaces) (a : Addr) → AreAlike m (change_copies f g m a)
copies_alike f g keeps keeps' m a = by_other (other_of (cell_at m a))
  where
    by_other : (o : Option Addr) → AreAlike m (change_if g (change_at f m a) o)
    by_other None = change_alike f keeps m a
    by_other (Some b) = alike_then m (change_at f m a) (change_at g (change_at f m a) b) (change_alike f keeps m a) (change_alike g keeps' (change_at f m a) b)

-- ---- what is live and what may be held

module _ (m n : Spaces) (alike : AreAlike m n) where
  live_object_stays : (posted_phase : Phase) (x : Addr) → is_live_object posted_phase n x ≡ is_live_object posted_phase m x
  live_object_stays Idle x = alike.old x
  live_object_stays Mark x = alike.old x
  live_object_stays Allocate x = alike.marked x
  live_object_stays Copy x = alike.marked x
  live_object_stays Reclaim x = alike.new x
  live_object_stays _ x = rw (alike.marked x, alike.new x) refl

  -- what is live stays live
  pub live_stays : (posted_phase : Phase) (x : Addr) → is_live posted_phase n x ≡ is_live posted_phase m x
  live_stays posted_phase x = ap (λ t. is_permanent x || t) (live_object_stays posted_phase x)

  -- what is marked stays marked
  pub marked_address_stays : (x : Addr) → is_marked_address n x ≡ is_marked_address m x
  marked_address_stays x = ap (λ t. is_permanent x || t) (alike.marked x)

  -- what is new stays new
  pub new_address_stays : (x : Addr) → is_new_address n x ≡ is_new_address m x
  new_address_stays x = ap (λ t. is_permanent x || t) (alike.new x)

  -- what may be held may be held still
  pub passes_still : (hold : Hold) (posted_phase : Phase) (x : Addr) → passes hold posted_phase n x ≡ passes hold posted_phase m x
  passes_still AnyLive posted_phase x = live_stays posted_phase x
  passes_still MarkedOnly posted_phase x = marked_address_stays x
  passes_still NewOnly posted_phase x = new_address_stays x

-- The cell of a new object, and which cell lies where after a birth.
use Rattle.std.proofs.Common.{◌≡◌, ◌≢◌, ◌⊎◌, inl, inr, ℕ, ◌+◌, ◌≤◌, Bool, true, false, replicate, refl, sym, ap, subst, ◌∙◌}
use Rattle.std.specs.Prelude.{Option, Some, None}
use Rattle.std.proofs.lemmas.Option.{none-some, same_Some}
use Rattle.cil_model.specs.declared.phases.Phase.{Phase}
use Rattle.cil_model.specs.declared.phases.Phase.TheVariants.{Allocate, Copy, PreFlip, HeapFlip, Reclaim}
use Rattle.cil_model.specs.PhaseOrder.{is_between}
use Rattle.object_memory.specs.declared.addresses.Addr.{Addr}
use Rattle.object_memory.specs.declared.kinds.Kind.{Kind}
use Rattle.object_memory.specs.declared.monitors.Monitor.TheVariants.{Free}
use Rattle.object_memory.specs.Cells.{Cell, cell_in, empty_cell, next_address}
use Rattle.object_memory.specs.Spaces.{AreSpaces, Spaces, address_at, birth_space_of, give_birth, cell_at, first_of, forward, room_at}
use Rattle.object_memory.specs.declared.birth_spaces.BirthSpace.{BirthSpace}
use Rattle.object_memory.specs.declared.birth_spaces.BirthSpace.TheVariants.{InBoth, InNew, InOld, Listed}
use Rattle.object_memory.specs.Objects.{Objects, object_cell}
use Rattle.object_memory.proofs.Blocks.{next_in}
use Rattle.object_memory.proofs.Births.{AreSpaces-born, born-kept, born-kept_new, born-kept_old, born-new_last, born-old_last, born-was_new, born-was_old, new_part, old_part}
use Rattle.object_memory.proofs.TwoSpaces.TwoBlocks.{either, forward_bare, forward_copy, forward_new, new_is_cell, not_new, not_old, old_is_cell}
use Rattle.cil_model.proofs.SameLaws.{never}
use Rattle.collector.proofs.Addresses.Tests.{same_address}

-- ---- what a birth is

-- an object without contents: n zeros, and nobody has entered its monitor
pub record IsEmpty (k : Kind) (n : ℕ) (c : Cell) : Type 0 where
  pub kind : c.kind ≡ k
  pub zeros : c.slots ≡ replicate n 0
  pub free : c.monitor ≡ Free

-- whether what a thread bears in a phase has two copies
abbrev pub bears_two : Phase → Bool
bears_two p = is_between Allocate HeapFlip p

-- the other copy of what is born, at an address where nothing lay
pub record IsOtherBorn (own : Phase) (k : Kind) (n : ℕ) (o o' : Objects) (a b : Addr) (c : Cell) : Type 0 where
  pub two : bears_two own ≡ true
  pub copy : forward o'.spaces a ≡ b
  pub empty : IsEmpty k n c
  pub nobody : object_cell o b ≡ None

-- An object is born at an address where none lay. Each of before lies where it lay, as it was, and nothing else comes but the other copy.
pub record IsBirth (own : Phase) (k : Kind) (n : ℕ) (o o' : Objects) (a : Addr) : Type 0 where
  pub cell : Cell
  pub lies : object_cell o' a ≡ Some cell
  pub empty : IsEmpty k n cell
  pub nobody : object_cell o a ≡ None
  pub others : (b : Addr) (c : Cell) → object_cell o b ≡ Some c → object_cell o' b ≡ Some c
  pub came : (b : Addr) (c : Cell) → object_cell o' b ≡ Some c → (object_cell o b ≡ Some c) ⊎ ((b ≡ a) ⊎ IsOtherBorn own k n o o' a b c)
  pub twin : bears_two own ≡ true → (c : Cell) × (object_cell o' (forward o'.spaces a) ≡ Some c) × IsOtherBorn own k n o o' a (forward o'.spaces a) c
  pub alone : bears_two own ≡ false → forward o'.spaces a ≡ a
  pub literals : o'.literals ≡ o.literals

-- in both blocks only where a thread bears two copies
two_of : (own : Phase) (is_open : Bool) → birth_space_of own is_open ≡ InBoth → bears_two own ≡ true
two_of Allocate is_open e = refl
two_of Copy is_open e = refl
two_of PreFlip is_open e = refl
two_of HeapFlip is_open e = refl
two_of Reclaim false e = absurd cc
two_of _ _ e = absurd cc

both_of : (own : Phase) (is_open : Bool) → bears_two own ≡ true → birth_space_of own is_open ≡ InBoth
both_of Allocate is_open e = refl
both_of Copy is_open e = refl
both_of PreFlip is_open e = refl
both_of HeapFlip is_open e = refl
both_of _ is_open e = absurd cc

module _ (k : Kind) (n : ℕ) where
  -- such a cell is empty
  empty_is : (b : Bool) (o : Option Addr) (c : Cell) → Some (empty_cell k n b o) ≡ Some c → IsEmpty k n c
  empty_is b o c e = subst (IsEmpty k n) (same_Some (empty_cell k n b o) c e) (record { kind = refl; zeros = refl; free = refl })

  -- so are both parts of what is born
  old_is_empty : (m : Spaces) (space : BirthSpace) (c : Cell) → old_part space m k n ≡ Some c → IsEmpty k n c
  old_is_empty m InOld c e = empty_is false None c e
  old_is_empty m Listed c e = empty_is true None c e
  old_is_empty m InBoth c e = empty_is true (Some (next_address m.new)) c e
  old_is_empty m InNew c e = elim (none-some c e) [ ]

  new_is_empty : (m : Spaces) (space : BirthSpace) (c : Cell) → new_part space m k n ≡ Some c → IsEmpty k n c
  new_is_empty m InBoth c e = empty_is true (Some (next_address m.old)) c e
  new_is_empty m InNew c e = empty_is false None c e
  new_is_empty m _ c e = elim (none-some c e) [ ]

  module _ (m : Spaces) (h : AreSpaces m) (space : BirthSpace) (room : 3 + n ≤ room_at space m) where
    abbrev m' : Spaces
    m' = give_birth space m k n

    h' : AreSpaces m'
    h' = AreSpaces-born m h k n space room

    -- a block has no cell where it has none afterwards
    none_new_by : (a : Addr) (x : Option Cell) → cell_in m.new a ≡ x → cell_in m'.new a ≡ None → cell_in m.new a ≡ None
    none_new_by a None is none = is
    none_new_by a (Some c) is none = elim (none-some c (sym none ∙ born-kept_new m h k n space a c is)) [ ]

    none_old_by : (a : Addr) (x : Option Cell) → cell_in m.old a ≡ x → cell_in m'.old a ≡ None → cell_in m.old a ≡ None
    none_old_by a None is none = is
    none_old_by a (Some c) is none = elim (none-some c (sym none ∙ born-kept_old m h k n space a c is)) [ ]

    -- nothing lay where the parts come
    nobody_old : (c : Cell) → old_part space m k n ≡ Some c → cell_at m (next_address m.old) ≡ None
    nobody_old c part =
        let a = next_address m.old in
        let none = none_new_by a (cell_in m.new a) refl (not_new m' h' a c (born-old_last m h k n space c part)) in
        ap (λ x. first_of x (cell_in m.new a)) (next_in m.old) ∙ none

    nobody_new : (c : Cell) → new_part space m k n ≡ Some c → cell_at m (next_address m.new) ≡ None
    nobody_new c part =
        let a = next_address m.new in
        let none = none_old_by a (cell_in m.old a) refl (not_old m' h' a c (born-new_last m h k n space c part)) in
        ap (λ x. first_of x (cell_in m.new a)) none ∙ next_in m.new

    -- each part lies at the end of its block
    old_lies : (c : Cell) → old_part space m k n ≡ Some c → cell_at m' (next_address m.old) ≡ Some c
    old_lies c part = old_is_cell m' (next_address m.old) c (born-old_last m h k n space c part)

    new_lies : (c : Cell) → new_part space m k n ≡ Some c → cell_at m' (next_address m.new) ≡ Some c
    new_lies c part = new_is_cell m' h' (next_address m.new) c (born-new_last m h k n space c part)

-- the part at the address that the thread gets
abbrev main_part : BirthSpace → Spaces → Kind → ℕ → Option Cell
main_part InOld m k n = old_part InOld m k n
main_part Listed m k n = old_part Listed m k n
main_part InBoth m k n = old_part InBoth m k n
main_part InNew m k n = new_part InNew m k n

-- each space has a main cell
main_cell : (space : BirthSpace) (m : Spaces) (k : Kind) (n : ℕ) → (c : Cell) × (main_part space m k n ≡ Some c)
main_cell Listed m k n = (empty_cell k n true None, refl)
main_cell InBoth m k n = (empty_cell k n true (Some (next_address m.new)), refl)
main_cell _ m k n = (empty_cell k n false None, refl)

module _ (own : Phase) (k : Kind) (n : ℕ) (o : Objects) (h : AreSpaces o.spaces) where
  abbrev m : Spaces
  m = o.spaces

  abbrev after : BirthSpace → Objects
  after space = record o { spaces = give_birth space m k n }

  -- it lies at the address that the thread gets,
  main_lies : (space : BirthSpace) → 3 + n ≤ room_at space m → (c : Cell) → main_part space m k n ≡ Some c → cell_at (give_birth space m k n) (address_at space m) ≡ Some c
  main_lies InOld room c e = old_lies k n m h InOld room c e
  main_lies Listed room c e = old_lies k n m h Listed room c e
  main_lies InBoth room c e = old_lies k n m h InBoth room c e
  main_lies InNew room c e = new_lies k n m h InNew room c e

  -- is empty,
  main_empty : (space : BirthSpace) (c : Cell) → main_part space m k n ≡ Some c → IsEmpty k n c
  main_empty InOld c e = old_is_empty k n m InOld c e
  main_empty Listed c e = old_is_empty k n m Listed c e
  main_empty InBoth c e = old_is_empty k n m InBoth c e
  main_empty InNew c e = new_is_empty k n m InNew c e

  -- and nothing lay there
  main_nobody : (space : BirthSpace) → 3 + n ≤ room_at space m → (c : Cell) → main_part space m k n ≡ Some c → cell_at m (address_at space m) ≡ None
  main_nobody InOld room c e = nobody_old k n m h InOld room c e
  main_nobody Listed room c e = nobody_old k n m h Listed room c e
  main_nobody InBoth room c e = nobody_old k n m h InBoth room c e
  main_nobody InNew room c e = nobody_new k n m h InNew room c e

  -- what comes in the old block is what is born
  old_came : (space : BirthSpace) (b : Addr) (c : Cell) → b.number ≡ (next_address m.old).number → old_part space m k n ≡ Some c → b ≡ address_at space m
  old_came InNew b c at e = elim (none-some c e) [ ]
  old_came _ b c at e = same_address b (next_address m.old) at

  -- the other copy
  other_born : 3 + n ≤ room_at InBoth m → birth_space_of own m.is_open ≡ InBoth → (b : Addr) (c : Cell) → b ≡ next_address m.new → new_part InBoth m k n ≡ Some c
      → IsOtherBorn own k n o (after InBoth) (next_address m.old) b c
  other_born room is b c here e =
      let x = empty_cell k n true (Some (next_address m.new)) in
      record {
        two = two_of own m.is_open is;
        copy = forward_copy (give_birth InBoth m k n) (next_address m.old) (next_address m.new) x (born-old_last m h k n InBoth x refl) refl ∙ sym here;
        empty = new_is_empty k n m InBoth c e;
        nobody = ap (cell_at m) here ∙ nobody_new k n m h InBoth room c e;
      }

  -- what comes in the new block is what is born too, or its other copy
  new_came : (space : BirthSpace) → 3 + n ≤ room_at space m → birth_space_of own m.is_open ≡ space → (b : Addr) (c : Cell) → b.number ≡ (next_address m.new).number → new_part space m k n ≡ Some c
      → (b ≡ address_at space m) ⊎ IsOtherBorn own k n o (after space) (address_at space m) b c
  new_came InBoth room is b c at e = inr (other_born room is b c (same_address b (next_address m.new) at) e)
  new_came InNew room is b c at e = inl (same_address b (next_address m.new) at)
  new_came _ room is b c at e = elim (none-some c e) [ ]

  -- where there are two, the other one is the forward of the one that the thread gets,
  main_twin : (space : BirthSpace) → 3 + n ≤ room_at space m → birth_space_of own m.is_open ≡ space → space ≡ InBoth
      → (c : Cell) × (cell_at (give_birth space m k n) (forward (give_birth space m k n) (address_at space m)) ≡ Some c) × IsOtherBorn own k n o (after space) (address_at space m) (forward (give_birth space m k n) (address_at space m)) c
  main_twin InBoth room is e =
      let x = empty_cell k n true (Some (next_address m.new)) in
      let d = empty_cell k n true (Some (next_address m.old)) in
      let copy = forward_copy (give_birth InBoth m k n) (next_address m.old) (next_address m.new) x (born-old_last m h k n InBoth x refl) refl in
      let lies = ap (cell_at (give_birth InBoth m k n)) copy ∙ new_lies k n m h InBoth room d refl in
      (d, lies, other_born room is (forward (give_birth InBoth m k n) (next_address m.old)) d copy refl)
  main_twin _ room is e = absurd cc

  -- and where there is one, it is its own forward
  main_alone : (space : BirthSpace) → 3 + n ≤ room_at space m → space ≢ InBoth → forward (give_birth space m k n) (address_at space m) ≡ address_at space m
  main_alone InOld room ne = let x = empty_cell k n false None in forward_bare (give_birth InOld m k n) (next_address m.old) x (born-old_last m h k n InOld x refl) refl
  main_alone Listed room ne = let x = empty_cell k n true None in forward_bare (give_birth Listed m k n) (next_address m.old) x (born-old_last m h k n Listed x refl) refl
  main_alone InBoth room ne = elim (ne refl) [ ]
  main_alone InNew room ne =
      let x = empty_cell k n false None in
      forward_new (give_birth InNew m k n) (AreSpaces-born m h k n InNew room) (next_address m.new) x (born-new_last m h k n InNew x refl)

  -- an object is born in its space, and nothing else comes but its other copy
  pub birth_in : (space : BirthSpace) → 3 + n ≤ room_at space m → birth_space_of own m.is_open ≡ space → IsBirth own k n o (after space) (address_at space m)
  birth_in space room is =
      let main = main_cell space m k n in
      record {
        cell = main.0;
        lies = main_lies space room main.0 main.1;
        empty = main_empty space main.0 main.1;
        nobody = main_nobody space room main.0 main.1;
        others = λ b c lies. born-kept m h k n space room b c lies;
        came = all_came;
        twin = λ two. main_twin space room is (sym is ∙ both_of own m.is_open two);
        alone = λ one. main_alone space room (λ both. never (sym one ∙ two_of own m.is_open (is ∙ both)));
        literals = refl;
      }
    where
      all_came : (b : Addr) (c : Cell) → cell_at (give_birth space m k n) b ≡ Some c → (cell_at m b ≡ Some c) ⊎ ((b ≡ address_at space m) ⊎ IsOtherBorn own k n o (after space) (address_at space m) b c)
      all_came b c lies = elim (either (give_birth space m k n) b c lies) [
        | inl old ↦ elim (born-was_old m h k n space b c old) [ inl was ↦ inl (old_is_cell m b c was) | inr here ↦ inr (inl (old_came space b c here.0 here.1)) ]
        | inr new ↦ elim (born-was_new m h k n space b c new) [ inl was ↦ inl (new_is_cell m h b c was) | inr here ↦ inr (new_came space room is b c here.0 here.1) ]
      ]

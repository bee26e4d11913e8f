-- Births in both blocks, and shells, in the terms of the heap's methods.
use Rattle.std.proofs.Common.{◌≡◌, ℕ, ◌+◌, ◌-◌, ◌≤◌, Bool, true, false, List, [], ◌∷◌, ◌++◌, length, refl, sym, ap, subst, ◌∙◌, arith}
use Rattle.std.specs.Prelude.{nat_le, Option, Some, None, IsSome, IfSome, option_map}
use Rattle.std.proofs.lemmas.Bool.Decides.{nat_tests}
use Rattle.cil_model.specs.declared.phases.Phase.{Phase}
use Rattle.cil_model.specs.declared.phases.Phase.TheVariants.{Idle, Reclaim}
use Rattle.object_memory.specs.declared.addresses.Addr.{Addr}
use Rattle.object_memory.specs.declared.kinds.Kind.{Kind}
use Rattle.object_memory.specs.declared.monitors.Monitor.{Monitor}
use Rattle.object_memory.specs.declared.heap.Cycle.{Cycle}
use Rattle.object_memory.specs.Cells.{Cell, Cells, size, free_words, next_address, literal_number, new_cell, store_copies, cell_in, change_in, slots_in, with_last, empty_cell}
use Rattle.object_memory.specs.Spaces.{AreSpaces, BirthSpace, birth_space_of, is_within_cycle, with_new, InBoth, Listed, room_at, shell_of, with_shell, set_other}
use Rattle.object_memory.specs.Objects.{Objects, spaces_of, IsHeld, with_birth_at}
use Rattle.object_memory.proofs.Blocks.{last_in, last_changed, same_in, unchanged_in}
use Rattle.object_memory.proofs.TwoSpaces.TwoBlocks.{AreSpaces-with_new, not_new, change-is_space}
use Rattle.object_memory.proofs.Births.{AreSpaces-born, HasGreyRoom-at, birth_at-no_literal}
use Rattle.object_memory.proofs.Rooms.{size-empty, HasGreyRoom-change}

pub last_is_there : (s : Cells) (k : Kind) (n : ℕ) → IsSome (cell_in (with_last s (new_cell k n)) (next_address s))
last_is_there s k n = rw (last_in s (new_cell k n)) refl

module _ (old : Cells) (cycle : Option Cycle) (c : Cycle) (h : IsHeld old cycle) (e : cycle ≡ Some c) (k : Kind) (n : ℕ) (room : 3 + n ≤ room_at InBoth (spaces_of old cycle)) where
  abbrev a : Addr
  a = next_address old

  abbrev b : Addr
  b = next_address c.to

  -- the blocks when both headers name the other copy
  abbrev from_then : Cells
  from_then = change_in (store_copies true (Some b)) (with_last old (new_cell k n)) a

  abbrev to_then : Cells
  to_then = change_in (store_copies true (Some a)) (with_last c.to (new_cell k n)) b

  from_is : from_then ≡ with_last old (empty_cell k n true (Some b))
  from_is = last_changed (store_copies true (Some b)) old (new_cell k n)

  to_is : to_then ≡ with_last c.to (empty_cell k n true (Some a))
  to_is = last_changed (store_copies true (Some a)) c.to (new_cell k n)

  pub both_held : IsHeld from_then (Some (record c { to = to_then }))
  both_held =
      let g = subst (λ x. IsHeld old x) e h in
      let r = subst (λ x. 3 + n ≤ room_at InBoth (spaces_of old x)) e room in
      let s = AreSpaces-born (spaces_of old (Some c)) g.spaces k n InBoth r in
      let grey = HasGreyRoom-at (spaces_of old (Some c)) g.spaces k n InBoth c.grey.spare r g.room in
      rw (from_is, to_is) (record { spaces = record { old = s.old; new = s.new; apart = s.apart }; room = omega (arith, grey) })

  pub both_born : (literals : List Monitor) → ◌≡◌ {A = Objects × Option Addr} (record { spaces = spaces_of from_then (Some (record c { to = to_then })); literals = literals }, Some a)
      (with_birth_at InBoth (record { spaces = spaces_of old cycle; literals = literals }) k n)
  both_born literals =
      let test : nat_le (3 + n) (room_at InBoth (spaces_of old cycle)) ≡ true = grind (arith, nat_tests) in
      rw (test, e, from_is, to_is) refl

-- ---- shells

module _ (old : Cells) (cycle : Option Cycle) (c : Cycle) (h : IsHeld old cycle) (e : cycle ≡ Some c) (a : Addr) (k : Kind) (n : ℕ) (t : Bool)
    (kind : option_map (λ (x : Cell). x.kind) (cell_in old a) ≡ Some k) (slots : n ≡ length (slots_in old a)) (marked : option_map (λ (x : Cell). x.marked) (cell_in old a) ≡ Some t)
    (room : 3 + n ≤ free_words c.to) where
  abbrev copy : Addr
  copy = next_address c.to

  abbrev noted : Cells
  noted = change_in (store_copies t (Some copy)) old a

  abbrev made : Cells
  made = change_in (store_copies false (Some a)) (with_last c.to (new_cell k n)) copy

  module _ (x : Cell) (is : cell_in old a ≡ Some x) where
    kind_is : x.kind ≡ k
    kind_is = let decoded = rw is at kind in cc

    marked_is : x.marked ≡ t
    marked_is = let decoded = rw is at marked in cc

    slots_are : n ≡ length x.slots
    slots_are = rw is at slots

    noted_is : noted ≡ change_in (set_other copy) old a
    noted_is = same_in (store_copies t (Some copy)) (set_other copy) old a x is (rw (← marked_is) refl)

    made_is : made ≡ with_last c.to (shell_of a x)
    made_is = last_changed (store_copies false (Some a)) c.to (new_cell k n) ∙ rw (kind_is, slots_are) refl

    fits : size (shell_of a x) ≤ free_words c.to
    fits = omega (arith, size-empty x.kind (length x.slots) false (Some a), slots_are, room)

    shell_held_at : IsHeld noted (Some (record c { to = made }))
    shell_held_at =
        let g = subst (λ y. IsHeld old y) e h in
        let wide = AreSpaces-with_new (spaces_of old (Some c)) (shell_of a x) g.spaces fits in
        rw (noted_is, made_is)
        (record {
          spaces = record { old = change-is_space (set_other copy) (λ y. refl) (spaces_of old (Some c)) a old g.spaces.old; new = wide.new; apart = g.spaces.apart };
          room = HasGreyRoom-change old c.grey.spare g.room (set_other copy) (λ y. refl) (λ y. refl) a;
        })

    pub shell_is : (literals : List Monitor) → ◌≡◌ {A = Objects} (record { spaces = spaces_of noted (Some (record c { to = made })); literals = literals })
        (record { spaces = with_shell (spaces_of old cycle) a x; literals = literals })
    shell_is literals =
        let g = subst (λ y. IsHeld old y) e h in
        let wide = AreSpaces-with_new (spaces_of old (Some c)) (shell_of a x) g.spaces fits in
        let alone = unchanged_in (set_other copy) (with_last c.to (shell_of a x)) a (not_new (with_new (spaces_of old (Some c)) (shell_of a x)) wide a x is) in
        rw (e, alone, noted_is, made_is) refl

  shell_held_by : (o : Option Cell) → cell_in old a ≡ o → IsHeld noted (Some (record c { to = made }))
  shell_held_by None is = let decoded = rw is at kind in absurd cc
  shell_held_by (Some x) is = shell_held_at x is

  pub shell_held : IsHeld noted (Some (record c { to = made }))
  shell_held = shell_held_by (cell_in old a) refl

-- ---- births that are put on the grey list

module _ (old : Cells) (cycle : Option Cycle) (c : Cycle) (h : IsHeld old cycle) (e : cycle ≡ Some c) (k : Kind) (n : ℕ) (room : 3 + n ≤ free_words old) where
  abbrev here : Addr
  here = next_address old

  abbrev marked_then : Cells
  marked_then = change_in (store_copies true None) (with_last old (new_cell k n)) here

  abbrev longer : Cycle
  longer = record c { grey = record { waiting = c.grey.waiting ++ here ∷ []; spare = c.grey.spare - 1 } }

  marked_then_is : marked_then ≡ with_last old (empty_cell k n true None)
  marked_then_is = last_changed (store_copies true None) old (new_cell k n)

  pub listed_held : IsHeld marked_then (Some longer)
  listed_held =
      let g = subst (λ x. IsHeld old x) e h in
      let s = AreSpaces-born (spaces_of old (Some c)) g.spaces k n Listed room in
      let grey = HasGreyRoom-at (spaces_of old (Some c)) g.spaces k n Listed c.grey.spare room g.room in
      rw marked_then_is (record { spaces = record { old = s.old; new = s.new; apart = s.apart }; room = grey })

  pub listed_born : (literals : List Monitor) → ◌≡◌ {A = Objects × Option Addr} (record { spaces = spaces_of marked_then (Some longer); literals = literals }, Some here)
      (with_birth_at Listed (record { spaces = spaces_of old cycle; literals = literals }) k n)
  listed_born literals =
      let test : nat_le (3 + n) (free_words old) ≡ true = grind (arith, nat_tests) in
      rw (test, e, marked_then_is) refl

-- a thread whose births are put on the grey list is in a phase that it has only while a cycle is open
pub listed_in_cycle : (phase : Phase) (is_open : Bool) → birth_space_of phase is_open ≡ Listed → is_within_cycle phase ≡ true
listed_in_cycle Idle is_open e = absurd cc
listed_in_cycle Reclaim true e = absurd cc
listed_in_cycle Reclaim false e = absurd cc
listed_in_cycle _ is_open e = refl

-- what is born has no literal's address
pub born_decoded : (o p : Objects) → AreSpaces o.spaces → o ≡ p → (offset : BirthSpace) (k : Kind) (n : ℕ) (after : Objects) (r : Option Addr) → ◌≡◌ {A = Objects × Option Addr} (after, r) (with_birth_at offset p k n)
    → IfSome r (λ a. literal_number a ≡ None)
born_decoded o p h same offset k n after r e =
    let spaces = subst (λ (x : Objects). AreSpaces x.spaces) same h in
    subst (λ (x : Option Addr). IfSome x (λ a. literal_number a ≡ None)) (sym (ap (λ (x : Objects × Option Addr). x.1) e)) (birth_at-no_literal p.spaces spaces k n offset)

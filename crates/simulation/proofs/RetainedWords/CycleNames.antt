-- Which addresses a cycle keeps names for: those of marked old objects until new ones are live, and then those of all new ones. Stores, marks and births
-- add to them only what a thread has a name for.
use Rattle.std.proofs.Common.{◌≡◌, ◌⊎◌, ℕ, Bool, true, false, Option, Some, is_some, refl, inl, inr, sym, ap, ◌∙◌, subst}
use Rattle.std.specs.Prelude.{◌||◌, unwrap_or}
use Rattle.std.proofs.lemmas.Bool.{or_right}
use Rattle.interpreter.specs.cil_model.declared.phases.Phase.{Phase}
use Rattle.interpreter.specs.cil_model.declared.phases.Phase.TheVariants.{Idle, Mark, Allocate, Copy, PreFlip, HeapFlip, ThreadFlip, Reclaim}
use Rattle.interpreter.specs.cil_model.PhaseOrder.{is_between}
use Rattle.interpreter.specs.reference_machine.Values.{ObjectName}
use Rattle.interpreter.specs.object_memory.declared.addresses.Addr.{Addr}
use Rattle.interpreter.specs.object_memory.declared.kinds.Kind.{Kind}
use Rattle.interpreter.specs.object_memory.declared.values.Value.{Value}
use Rattle.interpreter.specs.object_memory.declared.values.Value.TheVariants.{Ref}
use Rattle.interpreter.specs.object_memory.Cells.{Cell, cell_in, empty_cell, next_address}
use Rattle.interpreter.specs.object_memory.Objects.{Objects}
use Rattle.interpreter.specs.object_memory.Spaces.{AreSpaces, Spaces, address_at, birth_space_of, give_birth, forward, is_old, is_white, mark, marked_if, other_of, set_mark}
use Rattle.interpreter.specs.object_memory.declared.birth_spaces.BirthSpace.{BirthSpace}
use Rattle.interpreter.specs.object_memory.declared.birth_spaces.BirthSpace.TheVariants.{InBoth, InNew, InOld, Listed}
use Rattle.interpreter.specs.instructions.barriers.Barriers.{object_born, with_marked}
use Rattle.interpreter.specs.reference_machine.Cycles.{phase_after}
use Rattle.interpreter.proofs.object_memory.Births.{born-kept_old, born-old_last, born-was_new, born-was_old, forward-born, new_part, old_part}
use Rattle.interpreter.proofs.object_memory.Blocks.{next_in}
use Rattle.interpreter.proofs.object_memory.TwoSpaces.TwoBlocks.{after_in, own as changed, still as unchanged}
use Rattle.interpreter.proofs.cil_model.Lists.{none_is_some}
use Rattle.collector.specs.Holds.{AnyLive, Hold, MarkedOnly, NewOnly, passes}
use Rattle.collector.specs.Phases.{is_live, is_marked_cell, is_marked_old, is_new}
use Rattle.collector.specs.References.{Test, is_permanent}
use Rattle.collector.proofs.ThreadReferences.AfterStores.{marked_first}
use Rattle.collector.proofs.Marks.MarkChanges.{AreDarker, darker_tests}
use Rattle.collector.proofs.Births.BirthSoundness.{IsNear, granted}
use Rattle.collector.proofs.Marks.MarkedHeaps.{AreDarker-with_marked}
use Rattle.collector.proofs.Addresses.TagChanges.{AreAlike}
use Rattle.collector.proofs.Addresses.Tests.{HoldMeans, is_new_live, mark_is, marked_cell, marked_is_old, never, new_cell, new_is, old_is}
use Rattle.simulation.specs.Refines.{Names}
use Rattle.simulation.proofs.CollectorEvents.RepresentedObjects.{darker_other}

-- ---- what has to have a name

-- a marked old object, or from PreFlip on a new one
abbrev pub is_kept : Phase → Spaces → Test
is_kept Idle m a = false
is_kept Mark m a = is_marked_old m a
is_kept Allocate m a = is_marked_old m a
is_kept Copy m a = is_marked_old m a
is_kept PreFlip m a = is_new m a
is_kept HeapFlip m a = is_new m a
is_kept ThreadFlip m a = is_new m a
is_kept Reclaim m a = is_new m a

-- it is live
pub kept_is_live : (posted_phase : Phase) (m : Spaces) (a : Addr) → is_kept posted_phase m a ≡ true → is_live posted_phase m a ≡ true
kept_is_live Idle m a h = never h
kept_is_live Mark m a h = or_right (is_permanent a) (is_old m a) (marked_is_old m a h)
kept_is_live Allocate m a h = or_right (is_permanent a) (is_marked_old m a) h
kept_is_live Copy m a h = or_right (is_permanent a) (is_marked_old m a) h
kept_is_live Reclaim m a h = or_right (is_permanent a) (is_new m a) h
kept_is_live _ m a h = or_right (is_permanent a) (is_marked_old m a || is_new m a) (or_right (is_marked_old m a) (is_new m a) h)

-- and may be held by each thread
pub kept_is_held : (posted_phase : Phase) (has_round : Bool) (m : Spaces) (hold : Hold) → HoldMeans posted_phase has_round m hold → (a : Addr) → is_kept posted_phase m a ≡ true → passes hold posted_phase m a ≡ true
kept_is_held posted_phase has_round m AnyLive means a h = kept_is_live posted_phase m a h
kept_is_held posted_phase has_round m MarkedOnly means a h = or_right (is_permanent a) (is_marked_old m a) (subst (λ x. is_kept x m a ≡ true) means.0 h)
kept_is_held posted_phase has_round m NewOnly means a h = or_right (is_permanent a) (is_new m a) (by_phase posted_phase means h)
  where
    by_phase : (x : Phase) → is_new_live x ≡ true → is_kept x m a ≡ true → is_new m a ≡ true
    by_phase Idle late k = never k
    by_phase Mark late k = never late
    by_phase Allocate late k = never late
    by_phase Copy late k = never late
    by_phase _ late k = k

-- it is either marked or new
pub kept_cases : {A : Type 0} (posted_phase : Phase) (m : Spaces) (a : Addr) → is_kept posted_phase m a ≡ true →
    (is_marked_old m a ≡ true → ((n : Spaces) → is_kept posted_phase n a ≡ is_marked_old n a) → A) → (is_new m a ≡ true → ((n : Spaces) → is_kept posted_phase n a ≡ is_new n a) → A) → A
kept_cases Idle m a h marked new = never h
kept_cases Mark m a h marked new = marked h (λ n. refl)
kept_cases Allocate m a h marked new = marked h (λ n. refl)
kept_cases Copy m a h marked new = marked h (λ n. refl)
kept_cases _ m a h marked new = new h (λ n. refl)

-- while objects get their copies
abbrev pub is_copying : Phase → Bool
is_copying p = is_between Allocate Copy p

-- the address is that of the copy of a marked object
pub record IsCopyOfMarked (m : Spaces) (y : Addr) : Type 0 where
  pub old : Addr
  pub marked : is_marked_old m old ≡ true
  pub copy : forward m old ≡ y

-- each new object is the copy of a marked one then
abbrev pub AreCopiesOfMarked : Phase → Spaces → Type 0
AreCopiesOfMarked posted_phase m = is_copying posted_phase ≡ true → (y : Addr) → is_new m y ≡ true → IsCopyOfMarked m y

-- ---- names

-- an address has a name
abbrev pub IsNamed : Names → Addr → Type 0
IsNamed name a = (n : ObjectName) × (name a.number ≡ Some n)

-- From some blocks to others, where a phase is posted: all names are of some kind, and what is kept was kept before or has a name.
pub record KeepsNames (posted_phase : Phase) (IsKnown : ObjectName → Type 0) (first m : Spaces) (name : Names) : Type 0 where
  pub known : (a : ℕ) (n : ObjectName) → name a ≡ Some n → IsKnown n
  pub kept : (a : Addr) → is_kept posted_phase m a ≡ true → (is_kept posted_phase first a ≡ true) ⊎ IsNamed name a
  pub copies : AreCopiesOfMarked posted_phase first → AreCopiesOfMarked posted_phase m

-- where the same addresses are old, marked and new
module _ (posted_phase : Phase) (m n : Spaces) (alike : AreAlike m n) where
  pub kept_alike : (a : Addr) → is_kept posted_phase n a ≡ true → is_kept posted_phase m a ≡ true
  kept_alike a h = kept_cases posted_phase n a h (λ marked each. each m ∙ (sym (alike.marked a) ∙ marked)) (λ new each. each m ∙ (sym (alike.new a) ∙ new))

  pub copies_alike : AreCopiesOfMarked posted_phase m → AreCopiesOfMarked posted_phase n
  copies_alike are copying y new =
      let x = are copying y (sym (alike.new y) ∙ new) in
      record { old = x.old; marked = alike.marked x.old ∙ x.marked; copy = alike.forwards x.old ∙ x.copy }

-- ---- marks

module _ (m n : Spaces) (darker : AreDarker m n) where
  darker_forward : (a : Addr) → forward n a ≡ forward m a
  darker_forward a = ap (λ o. unwrap_or o a) (darker_other m n darker a)

  darker_new : (a : Addr) → is_new n a ≡ is_new m a
  darker_new a = ap (λ s. is_some (cell_in s a)) darker.new

  pub copies_darker : (posted_phase : Phase) → AreCopiesOfMarked posted_phase m → AreCopiesOfMarked posted_phase n
  copies_darker posted_phase are copying y new =
      let x = are copying y (sym (darker_new y) ∙ new) in
      record { old = x.old; marked = (darker_tests m n darker).marked x.old x.marked; copy = darker_forward x.old ∙ x.copy }

  -- what is kept then was kept before, or was marked since
  pub kept_darker : (posted_phase : Phase) (a : Addr) → is_kept posted_phase n a ≡ true → (is_kept posted_phase m a ≡ true) ⊎ ((is_marked_old n a ≡ true) × (is_marked_old m a ≡ true → is_kept posted_phase m a ≡ true))
  kept_darker posted_phase a h = kept_cases posted_phase n a h (λ marked each. inr (marked, λ was. each m ∙ was)) (λ new each. inl (each m ∙ (sym (darker_new a) ∙ new)))

-- an old object is marked where it was marked, or where the mark was of it
pub mark_adds : (m : Spaces) (q a : Addr) → is_marked_old (mark m q).0 a ≡ true → (is_marked_old m a ≡ true) ⊎ ((q ≡ a) × (is_old m a ≡ true))
mark_adds m q a h = by_white (is_white (cell_in m.old q)) h
  where
    by_white : (t : Bool) → is_marked_old (marked_if t m q) a ≡ true → (is_marked_old m a ≡ true) ⊎ ((q ≡ a) × (is_old m a ≡ true))
    by_white false dark = inl dark
    by_white true dark =
        let d = marked_cell (marked_if true m q) a dark in
        let c = after_in set_mark (λ x. refl) m.old q a d.0 d.1 in
        elim c.2 [
          | changed same equal ↦ inr (ap (λ (n : ℕ). record { number = n }) (sym same), old_is m a c.0 c.1)
          | unchanged ne equal ↦ inl (mark_is m a c.0 c.1 ∙ (sym (ap (λ (x : Cell). x.marked) equal) ∙ d.2))
        ]

-- or where a value refers to it
pub value_mark_adds : (o : Objects) (v : Value) (a : Addr) → is_marked_old (with_marked o v).spaces a ≡ true → (is_marked_old o.spaces a ≡ true) ⊎ ((v ≡ Ref a) × (is_old o.spaces a ≡ true))
value_mark_adds o (Ref q) a h = elim (mark_adds o.spaces q a h) [ inl was ↦ inl was | inr here ↦ inr (ap Ref here.0, here.1) ]
value_mark_adds o _ a h = inl h

module _ (own posted_phase : Phase) (o : Objects) (spaces : AreSpaces o.spaces) (v : Value) where
  -- what a store marks first, by the phase of the thread
  pub first_adds : (a : Addr) → is_kept posted_phase (marked_first own o v).spaces a ≡ true → (is_kept posted_phase o.spaces a ≡ true) ⊎ ((v ≡ Ref a) × (is_old o.spaces a ≡ true))
  first_adds a h = by_own own h
    where
      by_mark : is_kept posted_phase (with_marked o v).spaces a ≡ true → (is_kept posted_phase o.spaces a ≡ true) ⊎ ((v ≡ Ref a) × (is_old o.spaces a ≡ true))
      by_mark k = elim (kept_darker o.spaces (with_marked o v).spaces (AreDarker-with_marked o spaces v) posted_phase a k) [
        | inl was ↦ inl was
        | inr new ↦ elim (value_mark_adds o v a new.0) [ inl was ↦ inl (new.1 was) | inr here ↦ inr here ]
      ]

      by_own : (x : Phase) → is_kept posted_phase (marked_first x o v).spaces a ≡ true → (is_kept posted_phase o.spaces a ≡ true) ⊎ ((v ≡ Ref a) × (is_old o.spaces a ≡ true))
      by_own Mark k = by_mark k
      by_own _ k = inl k

  -- leaves copies
  pub first_copies : AreCopiesOfMarked posted_phase o.spaces → AreCopiesOfMarked posted_phase (marked_first own o v).spaces
  first_copies are = by_own own
    where
      by_own : (x : Phase) → AreCopiesOfMarked posted_phase (marked_first x o v).spaces
      by_own Mark = copies_darker o.spaces (with_marked o v).spaces (AreDarker-with_marked o spaces v) posted_phase are
      by_own _ = are

-- ---- births

module _ (m : Spaces) (spaces : AreSpaces m) (k : Kind) (n : ℕ) where
  part_address : (space : BirthSpace) (a : Addr) (d : Cell) → a.number ≡ (next_address m.old).number → old_part space m k n ≡ Some d → a ≡ address_at space m
  part_address InNew a d same part = none_is_some d part
  part_address _ a d same part = ap (λ (x : ℕ). record { number = x }) same

  -- a marked object was marked before or is the one that was born
  pub born_marked : (space : BirthSpace) (a : Addr) → is_marked_old (give_birth space m k n) a ≡ true → (is_marked_old m a ≡ true) ⊎ (a ≡ address_at space m)
  born_marked space a h =
      let d = marked_cell (give_birth space m k n) a h in
      elim (born-was_old m spaces k n space a d.0 d.1) [
        | inl was ↦ inl (mark_is m a d.0 was ∙ d.2)
        | inr here ↦ inr (part_address space a d.0 here.0 here.1)
      ]

  new_address : (space : BirthSpace) (a : Addr) (d : Cell) → a.number ≡ (next_address m.new).number → new_part space m k n ≡ Some d →
      (a ≡ address_at space m) ⊎ (other_of (cell_in (give_birth space m k n).old (address_at space m)) ≡ Some a)
  new_address InBoth a d same part =
      inr (ap other_of (born-old_last m spaces k n InBoth (empty_cell k n true (Some (next_address m.new))) refl) ∙ ap (λ (x : ℕ). Some (record { number = x })) (sym same))
  new_address InNew a d same part = inl (ap (λ (x : ℕ). record { number = x }) same)
  new_address _ a d same part = none_is_some d part

  -- and a new one was new before, or is that one or its copy
  pub born_new : (space : BirthSpace) (a : Addr) → is_new (give_birth space m k n) a ≡ true → (is_new m a ≡ true) ⊎ ((a ≡ address_at space m) ⊎ (other_of (cell_in (give_birth space m k n).old (address_at space m)) ≡ Some a))
  born_new space a h =
      let d = new_cell (give_birth space m k n) a h in
      elim (born-was_new m spaces k n space a d.0 d.1) [
        | inl was ↦ inl (new_is m a d.0 was)
        | inr here ↦ inr (new_address space a d.0 here.0 here.1)
      ]

  -- what was a copy is one
  still_copy : (space : BirthSpace) (y : Addr) → IsCopyOfMarked m y → IsCopyOfMarked (give_birth space m k n) y
  still_copy space y x =
      let c = marked_cell m x.old x.marked in
      record {
        old = x.old;
        marked = mark_is (give_birth space m k n) x.old c.0 (born-kept_old m spaces k n space x.old c.0 c.1) ∙ c.2;
        copy = forward-born m spaces k n space x.old (λ same. none_is_some c.0 (sym (next_in m.old) ∙ subst (λ (z : ℕ). cell_in m.old (record { number = z }) ≡ Some c.0) same c.1)) ∙ x.copy;
      }

  copies_born : (space : BirthSpace) → (space ≡ InNew → ⊥) → ((y : Addr) → is_new m y ≡ true → IsCopyOfMarked m y) → (y : Addr) → is_new (give_birth space m k n) y ≡ true → IsCopyOfMarked (give_birth space m k n) y
  copies_born InOld else' are y new = still_copy InOld y (are y new)
  copies_born Listed else' are y new = still_copy Listed y (are y new)
  copies_born InNew else' are y new = absurd (else' refl)
  copies_born InBoth else' are y new =
      let d = new_cell (give_birth InBoth m k n) y new in
      let last = born-old_last m spaces k n InBoth (empty_cell k n true (Some (next_address m.new))) refl in
      elim (born-was_new m spaces k n InBoth y d.0 d.1) [
        | inl was ↦ still_copy InBoth y (are y (new_is m y d.0 was))
        | inr here ↦ record {
          old = next_address m.old;
          marked = ap is_marked_cell last;
          copy = ap (λ o. unwrap_or (other_of o) (next_address m.old)) last ∙ ap (λ (x : ℕ). record { number = x }) (sym here.0);
        }
      ]

-- no thread that bears in the new block alone is near the phases in which objects get their copies
not_in_new : (own posted_phase : Phase) (is_open : Bool) → IsNear own posted_phase → is_copying posted_phase ≡ true → birth_space_of own is_open ≡ InNew → ⊥
not_in_new own posted_phase is_open near copying = by_near near
  where
    at_own : (x : Phase) (t : Bool) → is_copying x ≡ true → birth_space_of x t ≡ InNew → ⊥
    at_own Allocate t e h = absurd cc
    at_own Copy t e h = absurd cc
    at_own _ t e h = never e

    at_next : (x : Phase) (t : Bool) → is_copying (phase_after x) ≡ true → birth_space_of x t ≡ InNew → ⊥
    at_next Mark t e h = absurd cc
    at_next Allocate t e h = absurd cc
    at_next _ t e h = never e

    by_near : IsNear own posted_phase → birth_space_of own is_open ≡ InNew → ⊥
    by_near (inl is) = at_own own is_open (ap is_copying is ∙ copying)
    by_near (inr is) = at_next own is_open (ap is_copying is ∙ copying)

module _ (own posted_phase : Phase) (near : IsNear own posted_phase) (o : Objects) (spaces : AreSpaces o.spaces) (k : Kind) (n : ℕ) (o' : Objects) (a : Addr) (e : ◌≡◌ {A = Objects × Option Addr} (object_born own o k n) (o', Some a)) where
  abbrev space : BirthSpace
  space = birth_space_of own o.spaces.is_open

  -- what is marked after a birth was marked before, or is what was born,
  pub marked_before_birth : (x : Addr) → is_marked_old o'.spaces x ≡ true → (is_marked_old o.spaces x ≡ true) ⊎ (x ≡ a)
  marked_before_birth x h =
      let g = granted own o k n o' a e in
      elim (born_marked o.spaces spaces k n space x (subst (λ (z : Objects). is_marked_old z.spaces x ≡ true) (sym g.1) h)) [ inl was ↦ inl was | inr here ↦ inr (here ∙ g.2) ]

  -- what is new was new before, or is what was born or its copy
  pub new_before_birth : (x : Addr) → is_new o'.spaces x ≡ true → (is_new o.spaces x ≡ true) ⊎ ((x ≡ a) ⊎ (other_of (cell_in o'.spaces.old a) ≡ Some x))
  new_before_birth x h =
      let g = granted own o k n o' a e in
      elim (born_new o.spaces spaces k n space x (subst (λ (z : Objects). is_new z.spaces x ≡ true) (sym g.1) h)) [
        | inl was ↦ inl was
        | inr here ↦ elim here [
          | inl own' ↦ inr (inl (own' ∙ g.2))
          | inr other ↦
              inr (inr (subst (λ (z : Objects). other_of (cell_in z.spaces.old a) ≡ Some x) g.1 (subst (λ (y : Addr). other_of (cell_in (give_birth space o.spaces k n).old y) ≡ Some x) g.2 other)))
        ]
      ]

  -- so is what is kept
  pub birth_adds : (x : Addr) → is_kept posted_phase o'.spaces x ≡ true → (is_kept posted_phase o.spaces x ≡ true) ⊎ ((x ≡ a) ⊎ (other_of (cell_in o'.spaces.old a) ≡ Some x))
  birth_adds x h = kept_cases posted_phase o'.spaces x h
      (λ marked each. elim (marked_before_birth x marked) [ inl was ↦ inl (each o.spaces ∙ was) | inr here ↦ inr (inl here) ])
      (λ new each. elim (new_before_birth x new) [ inl was ↦ inl (each o.spaces ∙ was) | inr here ↦ inr here ])

  pub birth_copies : AreCopiesOfMarked posted_phase o.spaces → AreCopiesOfMarked posted_phase o'.spaces
  birth_copies are copying =
      let g = granted own o k n o' a e in
      subst (λ (z : Objects). (y : Addr) → is_new z.spaces y ≡ true → IsCopyOfMarked z.spaces y) g.1
      (copies_born o.spaces spaces k n (birth_space_of own o.spaces.is_open) (not_in_new own posted_phase o.spaces.is_open near copying) (are copying))

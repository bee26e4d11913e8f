-- What a heap's two blocks have at an address, by the addresses that the old one spans.
use Rattle.std.proofs.Common.{◌≡◌, ◌⊎◌, inl, inr, ℕ, ◌+◌, ◌-◌, ◌*◌, ◌++◌, ◌<◌, ◌≤◌, Bool, true, false, List, [], ◌∷◌, refl, sym, ap, subst, ◌∙◌, arith}
use Rattle.std.specs.Prelude.{◌==◌, ◌||◌, Option, Some, None, IsSome, option_map, unwrap_or, is_some, nat_lt, if◌then◌else◌}
use Rattle.cil_model.specs.declared.limits.TheConstants.{MOST_WORDS}
use Rattle.object_memory.specs.declared.addresses.Addr.{Addr}
use Rattle.object_memory.specs.declared.heap.Cycle.{Cycle}
use Rattle.object_memory.specs.Cells.{Cell, Cells, size, null, first, literal_number, store_copies, cell_in, change_in, slots_in}
use Rattle.object_memory.specs.declared.monitors.Monitor.{Monitor}
use Rattle.object_memory.specs.declared.addresses.TheConstants.{FIRST_LITERAL}
use Rattle.std.proofs.lemmas.Bool.Decides.{nat_tests}
use borrow.Author.Tests.{eqb-true}
use Rattle.object_memory.specs.Spaces.{Spaces, AreSpaces, HasGreyRoom, IsThere, first_of, cell_at, slots_at, change_at, set_mark, is_white, other_start, second}
use Rattle.object_memory.specs.Objects.{Objects, new_of, spaces_of, IsHeld, with_mark}
use Rattle.object_memory.proofs.Blocks.{range_in, unchanged_in, same_in}
use Rattle.object_memory.proofs.TwoSpaces.TwoBlocks.{not_old, not_new, change-is_space, AreSpaces-opened}
use Rattle.object_memory.proofs.Rooms.{HasGreyRoom-change, HasGreyRoom-mark, HasGreyRoom-opened, grey_fits}

-- an address that the old block spans, unless there is one block alone
abbrev pub IsFromOld : Cells → Option Cycle → Addr → Type 0
IsFromOld old cycle a = (x : Cycle) → cycle ≡ Some x → (old.start ≤ a.number) × (a.number < old.start + MOST_WORDS)

first_of_none : (o : Option Cell) → first_of o None ≡ o
first_of_none None = refl
first_of_none (Some c) = refl

no_new_by : (m : Spaces) → AreSpaces m → (a : Addr) (o : Option Cell) → cell_in m.new a ≡ o → (m.old.start ≤ a.number) × (a.number < m.old.start + MOST_WORDS) → o ≡ None
no_new_by m h a None e inside = refl
no_new_by m h a (Some c) e inside =
    let r = range_in m.new a c e in
    elim h.old.start [
      | inl start ↦ absurd (omega (arith, start, inside.0, inside.1, r.0, r.1, h.apart, h.new.fits, h.new.few))
      | inr start ↦ absurd (omega (arith, start, inside.0, inside.1, r.0, r.1, h.apart, h.new.fits, h.new.few))
    ]

-- no new cell lies there
pub none_new : (old : Cells) (cycle : Option Cycle) → IsHeld old cycle → (a : Addr) → IsFromOld old cycle a → cell_in (spaces_of old cycle).new a ≡ None
none_new old None h a inside = refl
none_new old (Some c) h a inside = no_new_by (spaces_of old (Some c)) h.spaces a (cell_in c.to a) refl (inside c refl)

-- so what lies there lies in the old block
pub at_old : (old : Cells) (cycle : Option Cycle) → IsHeld old cycle → (a : Addr) → IsFromOld old cycle a → cell_at (spaces_of old cycle) a ≡ cell_in old a
at_old old None h a inside = first_of_none (cell_in old a)
at_old old (Some c) h a inside = ap (λ o. first_of (cell_in old a) o) (none_new old (Some c) h a inside) ∙ first_of_none (cell_in old a)

pub slots_at_old : (old : Cells) (cycle : Option Cycle) → IsHeld old cycle → (a : Addr) → IsFromOld old cycle a → slots_at (spaces_of old cycle) a ≡ slots_in old a
slots_at_old old cycle h a inside = ap (λ o. unwrap_or (option_map (λ (c : Cell). c.slots) o) []) (at_old old cycle h a inside)

-- an address that the old block doesn't span is of no old cell
pub none_old : (old : Cells) (a : Addr) (t : Bool) → t ≡ false → (IsSome (cell_in old a) → t ≡ true) → cell_in old a ≡ None
none_old old a t off own = none_by (cell_in old a) refl
  where
    none_by : (o : Option Cell) → cell_in old a ≡ o → cell_in old a ≡ None
    none_by None e = e
    none_by (Some c) e = let on : t ≡ true = own (rw e refl) in absurd cc

new_stays : (f : Cell → Cell) (old : Cells) (cycle : Option Cycle) → IsHeld old cycle → (a : Addr) → IsFromOld old cycle a → new_of (change_in f old a) cycle ≡ change_in f (new_of old cycle) a
new_stays f old None h a inside = refl
new_stays f old (Some c) h a inside = sym (unchanged_in f c.to a (none_new old (Some c) h a inside))

-- a change there changes the old block alone, or the new one alone
pub changed_old : (f : Cell → Cell) (old : Cells) (cycle : Option Cycle) → IsHeld old cycle → (a : Addr) → IsFromOld old cycle a → spaces_of (change_in f old a) cycle ≡ change_at f (spaces_of old cycle) a
changed_old f old cycle h a inside = ap (λ (s : Cells). record (spaces_of old cycle) { old = change_in f old a; new = s }) (new_stays f old cycle h a inside)

pub changed_new : (f : Cell → Cell) (old : Cells) (c : Cycle) (a : Addr) → cell_in old a ≡ None → spaces_of old (Some (record c { to = change_in f c.to a })) ≡ change_at f (spaces_of old (Some c)) a
changed_new f old c a e = ap (λ (s : Cells). record (spaces_of old (Some c)) { old = s; new = change_in f c.to a }) (sym (unchanged_in f old a e))

-- the same in the terms of the methods: with an address that the old block spans, and with another
pub slots_spanned : (old : Cells) (cycle : Option Cycle) (c : Cycle) (a : Addr) → IsHeld old cycle → cycle ≡ Some c → (old.start ≤ a.number) × (a.number < old.start + MOST_WORDS) → slots_at (spaces_of old cycle) a ≡ slots_in old a
slots_spanned old cycle c a h some inside = slots_at_old old cycle h a (λ x e. inside)

pub cells_spanned : (old : Cells) (cycle : Option Cycle) (c : Cycle) (a : Addr) → IsHeld old cycle → cycle ≡ Some c → (old.start ≤ a.number) × (a.number < old.start + MOST_WORDS) → cell_at (spaces_of old cycle) a ≡ cell_in old a
cells_spanned old cycle c a h some inside = at_old old cycle h a (λ x e. inside)

-- ---- whether an old object lies there

old_by : (old : Cells) (cycle : Option Cycle) → IsHeld old cycle → (a : Addr) (t : Bool) → (IsSome (cell_in old a) → t ≡ true)
    → (t ≡ true → (old.start ≤ a.number) × (a.number < old.start + MOST_WORDS))
    → (a ≡ null) ⊎ (IsSome (literal_number a) ⊎ IsSome (cell_at (spaces_of old cycle) a)) → t ≡ is_some (cell_in old a)
old_by old cycle h a false own range what = rw (none_old old a false refl own) refl
old_by old cycle h a true own range what =
    let r = range refl in
    elim what [
      | inl null ↦ let zero_number = ap (λ (x : Addr). x.number) null in (elim h.spaces.old.start [
        | inl start ↦ absurd (omega (arith, zero_number, start, r.0))
        | inr start ↦ absurd (omega (arith, zero_number, start, r.0))
      ])
      | inr (inl literal) ↦ let far = literal_far a literal in (elim h.spaces.old.start [
        | inl start ↦ absurd (omega (arith, far, start, r.1))
        | inr start ↦ absurd (omega (arith, far, start, r.1))
      ])
      | inr (inr cell) ↦ some_is (cell_in old a) (subst IsSome (at_old old cycle h a (λ x e. r)) cell)
    ]
  where
    some_is : (o : Option Cell) → IsSome o → true ≡ is_some o
    some_is None s = absurd cc
    some_is (Some c) s = refl

    literal_far : (x : Addr) → IsSome (literal_number x) → FIRST_LITERAL ≤ x.number
    literal_far x s = far_by x (nat_lt x.number FIRST_LITERAL) refl s
      where
        far_by : (x : Addr) (b : Bool) → nat_lt x.number FIRST_LITERAL ≡ b → IsSome (if b then None else Some (x.number - FIRST_LITERAL)) → FIRST_LITERAL ≤ x.number
        far_by x true e s = absurd cc
        far_by x false e s = grind (arith, nat_tests)

-- what passes the test of what is there
what_is : (m : Spaces) (a : Addr) → IsThere m a → (a ≡ null) ⊎ (IsSome (literal_number a) ⊎ IsSome (cell_at m a))
what_is m a there = by_number (a.number == 0) refl there
  where
    by_cell : (x y : Bool) → x ≡ is_some (literal_number a) → y ≡ is_some (cell_at m a) → (x || y) ≡ true → IsSome (literal_number a) ⊎ IsSome (cell_at m a)
    by_cell true y e e' is = inl (sym e)
    by_cell false y e e' is = inr (sym e' ∙ is)

    by_number : (x : Bool) → (a.number == 0) ≡ x → (x || (is_some (literal_number a) || is_some (cell_at m a))) ≡ true → (a ≡ null) ⊎ (IsSome (literal_number a) ⊎ IsSome (cell_at m a))
    by_number true e is = inl (ap (λ (n : ℕ). let b : Addr = record { number = n } in b) (eqb-true a.number 0 e))
    by_number false e is = inr (by_cell (is_some (literal_number a)) (is_some (cell_at m a)) refl refl is)

pub old_is : (old : Cells) (cycle : Option Cycle) → IsHeld old cycle → (a : Addr) (t : Bool) → (IsSome (cell_in old a) → t ≡ true)
    → (t ≡ true → (old.start ≤ a.number) × (a.number < old.start + MOST_WORDS)) → IsThere (spaces_of old cycle) a → t ≡ is_some (cell_in old a)
old_is old cycle h a t own range there = old_by old cycle h a t own range (what_is (spaces_of old cycle) a there)

-- what is the same of the blocks is the same beside the literals
pub beside : (literals : List Monitor) {m n : Spaces} → m ≡ n → ◌≡◌ {A = Objects} (record { spaces = m; literals = literals }) (record { spaces = n; literals = literals })
beside literals e = ap (λ x. record { spaces = x; literals = literals }) e

-- ---- what a heap holds stays held

module _ (f : Cell → Cell) (keeps : (c : Cell) → size (f c) ≡ size c) where
  pub held_old : ((c : Cell) → (f c).marked ≡ c.marked) → (old : Cells) (cycle : Option Cycle) (a : Addr) → IsHeld old cycle → IsHeld (change_in f old a) cycle
  held_old marks old None a h = record { spaces = record { old = change-is_space f keeps (spaces_of old None) a old h.spaces.old; new = h.spaces.new; apart = h.spaces.apart }; room = tt }
  held_old marks old (Some c) a h =
      record {
        spaces = record { old = change-is_space f keeps (spaces_of old (Some c)) a old h.spaces.old; new = h.spaces.new; apart = h.spaces.apart };
        room = HasGreyRoom-change old c.grey.spare h.room f keeps marks a;
      }

  pub held_new : (old : Cells) (c : Cycle) (a : Addr) → IsHeld old (Some c) → IsHeld old (Some (record c { to = change_in f c.to a }))
  held_new old c a h =
      record {
        spaces = record { old = h.spaces.old; new = change-is_space f keeps (spaces_of old (Some c)) a c.to h.spaces.new; apart = h.spaces.apart };
        room = h.room;
      }

-- ---- marks

marked_room : (old : Cells) (cycle : Option Cycle) (c : Cycle) → IsHeld old cycle → cycle ≡ Some c → HasGreyRoom old c.grey.spare
marked_room old cycle c h e = let r = subst (λ x. IsHeld old x) e h in r.room

module _ (old : Cells) (cycle : Option Cycle) (c : Cycle) (h : IsHeld old cycle) (e : cycle ≡ Some c) (a : Addr) (x : Cell) (at : cell_in old a ≡ Some x) (unmarked : x.marked ≡ false) where
  abbrev after : Cycle
  after = record c { grey = record { waiting = c.grey.waiting ++ a ∷ []; spare = c.grey.spare - 1 }; has_marked = true }

  abbrev noted : Cell → Cell
  noted = store_copies true x.other

  as_mark : change_in noted old a ≡ change_in set_mark old a
  as_mark = same_in noted set_mark old a x at refl

  pub push_fits : 0 < c.grey.spare
  push_fits = grey_fits old c.grey.spare (marked_room old cycle c h e) a x at unmarked

  pub held_marked : IsHeld (change_in noted old a) (Some after)
  held_marked =
      let g = subst (λ y. IsHeld old y) e h in
      subst (λ s. IsHeld s (Some after)) (sym as_mark)
      (record {
        spaces = record { old = change-is_space set_mark (λ y. refl) (spaces_of old cycle) a old g.spaces.old; new = g.spaces.new; apart = g.spaces.apart };
        room = HasGreyRoom-mark old c.grey.spare g.room a x at unmarked;
      })

  pub marked_is : (literals : List Monitor) → ◌≡◌ {A = Objects × Bool} (record { spaces = spaces_of (change_in noted old a) (Some after); literals = literals }, true) (with_mark (record { spaces = spaces_of old cycle; literals = literals }) a)
  marked_is literals =
      let white : is_white (cell_in old a) ≡ true = rw (at, unmarked) refl in
      let new : new_of old cycle ≡ c.to = ap (new_of old) e in
      let inside : change_in set_mark c.to a ≡ c.to = unchanged_in set_mark c.to a (not_new (spaces_of old (Some c)) (subst (λ y. IsHeld old y) e h).spaces a x at) in
      rw (white, e, inside, as_mark) refl

-- in the terms of the methods
decoded_cell : (o : Option Cell) (t : Bool) (r : Option Addr) → option_map (λ (c : Cell). c.marked) o ≡ Some t → option_map (λ (c : Cell). c.other) o ≡ Some r
    → (x : Cell) × (o ≡ Some x) × (x.marked ≡ t) × (x.other ≡ r)
decoded_cell None t r e e' = absurd cc
decoded_cell (Some x) t r e e' = let marked : x.marked ≡ t = cc in let other : x.other ≡ r = cc in (x, refl, marked, other)

module _ (old : Cells) (cycle : Option Cycle) (c : Cycle) (h : IsHeld old cycle) (e : cycle ≡ Some c) (a : Addr) (t : Bool) (r : Option Addr)
    (marked : option_map (λ (x : Cell). x.marked) (cell_in old a) ≡ Some t) (unmarked : t ≡ false) (other : option_map (λ (x : Cell). x.other) (cell_in old a) ≡ Some r) where
  pub mark_push : 0 < c.grey.spare
  mark_push = let x = decoded_cell (cell_in old a) t r marked other in push_fits old cycle c h e a x.0 x.1 (x.2 ∙ unmarked)

  pub mark_held : IsHeld (change_in (store_copies true r) old a) (Some (record c { grey = record { waiting = c.grey.waiting ++ a ∷ []; spare = c.grey.spare - 1 }; has_marked = true }))
  mark_held =
      let x = decoded_cell (cell_in old a) t r marked other in
      subst (λ o. IsHeld (change_in (store_copies true o) old a) (Some (record c { grey = record { waiting = c.grey.waiting ++ a ∷ []; spare = c.grey.spare - 1 }; has_marked = true }))) x.3
      (held_marked old cycle c h e a x.0 x.1 (x.2 ∙ unmarked))

  pub mark_is : (literals : List Monitor)
      → ◌≡◌ {A = Objects × Bool}
      (record { spaces = spaces_of (change_in (store_copies true r) old a) (Some (record c { grey = record { waiting = c.grey.waiting ++ a ∷ []; spare = c.grey.spare - 1 }; has_marked = true })); literals = literals }, true)
      (with_mark (record { spaces = spaces_of old cycle; literals = literals }) a)
  mark_is literals =
      let x = decoded_cell (cell_in old a) t r marked other in
      subst
      (λ o. ◌≡◌ {A = Objects × Bool}
      (record { spaces = spaces_of (change_in (store_copies true o) old a) (Some (record c { grey = record { waiting = c.grey.waiting ++ a ∷ []; spare = c.grey.spare - 1 }; has_marked = true })); literals = literals }, true)
      (with_mark (record { spaces = spaces_of old cycle; literals = literals }) a))
      x.3 (marked_is old cycle c h e a x.0 x.1 (x.2 ∙ unmarked) literals)

-- ---- cycles

pub held_opened : (old : Cells) (cycle : Option Cycle) (start words spare capacity : ℕ) (waiting : List Addr) → IsHeld old cycle → start ≡ other_start old.start → words ≤ MOST_WORDS → old.words ≤ 3 * capacity + 2 → spare ≡ capacity
    → IsHeld old (Some (record { to = record { start = start; cells = []; words = words }; grey = record { waiting = waiting; spare = spare }; has_marked = false }))
held_opened old cycle start words spare capacity waiting h at few long all =
    let o = AreSpaces-opened (spaces_of old cycle) h.spaces words few in
    record {
      spaces = record { old = h.spaces.old; new = record { start = subst (λ s. (s ≡ first) ⊎ (s ≡ second)) (sym at) o.new.start; fits = omega arith; few = few }; apart = omega (arith, at, o.apart) };
      room = HasGreyRoom-opened old spare h.spaces.old.fits (omega (arith, long, all));
    }

-- ---- clearing

none_old_of : (m : Spaces) → AreSpaces m → (a : Addr) (o : Option Cell) → cell_in m.new a ≡ o → IsSome o → cell_in m.old a ≡ None
none_old_of m h a None e some = absurd cc
none_old_of m h a (Some d) e some = not_old m h a d e

pub cleared : (f : Cell → Cell) (old : Cells) (cycle : Option Cycle) (c : Cycle) (a : Addr) → IsHeld old cycle → cycle ≡ Some c → IsSome (cell_in (new_of old cycle) a)
    → spaces_of old (Some (record c { to = change_in f c.to a })) ≡ change_at f (spaces_of old cycle) a
cleared f old cycle c a h e some =
    let none = none_old_of (spaces_of old cycle) h.spaces a (cell_in (new_of old cycle) a) refl some in
    changed_new f old c a none ∙ ap (λ x. change_at f (spaces_of old x) a) (sym e)

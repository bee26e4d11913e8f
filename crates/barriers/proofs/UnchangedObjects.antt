-- What a mark or a store to one copy of an object leaves of all others.
use Rattle.std.proofs.Common.{◌≡◌, ℕ, ◌<◌, Bool, true, false, [], length, refl, sym, ap, subst, ◌∙◌}
use Rattle.std.proofs.Math.ListN.{length-set}
use Rattle.std.specs.Prelude.{if◌then◌else◌, nat_lt, is_some, Option, Some, None, IsSome, option_map}
use Rattle.std.specs.Option.{option_map_or}
use Rattle.std.proofs.lemmas.Bool.{ltb-true}
use Rattle.object_memory.specs.declared.addresses.Addr.{Addr}
use Rattle.object_memory.specs.declared.monitors.Monitor.{Monitor}
use Rattle.object_memory.specs.declared.values.Value.{Value}
use Rattle.object_memory.specs.declared.values.Value.TheVariants.{Int32, Int64, Native, Ref}
use Rattle.object_memory.specs.Cells.{Cell, cell_in, store_slot, store_monitor}
use Rattle.object_memory.specs.Spaces.{Spaces, change_at, change_copies, change_if, is_old, is_white, marked_if, other_of, set_mark}
use Rattle.object_memory.specs.Objects.{Objects, object_cell, object_slots, with_cell, with_slot}
use Rattle.object_memory.proofs.Counts.{change-count, change-there}
use Rattle.barriers.specs.Barriers.{other_has_slot, is_other_in_heap, with_both, with_both_monitors, with_marked}

-- the other copy, as the heap reports it
pub other_decoded : (o : Option Cell) (r : Option Addr) → option_map (λ (c : Cell). c.other) o ≡ Some r → other_of o ≡ r
other_decoded None r e = absurd cc
other_decoded (Some c) r e = cc

-- the other copy that has a slot too, and one that lies there
has_slot : (o : Objects) (a b : Addr) (slot : ℕ) → other_has_slot o a slot ≡ true → other_of (object_cell o a) ≡ Some b → slot < length (object_slots o b)
has_slot o a b slot alike other = ltb-true slot (length (object_slots o b)) (sym (ap (λ r. option_map_or (λ c. nat_lt slot (length (object_slots o c))) r true) other) ∙ alike)

lies_there : (o : Objects) (a b : Addr) → is_other_in_heap o a ≡ true → other_of (object_cell o a) ≡ Some b → IsSome (object_cell o b)
lies_there o a b there other = sym (ap (λ r. option_map_or (λ c. is_some (object_cell o c)) r true) other) ∙ there

-- ---- slots

marked_count : (m : Spaces) (a b : Addr) (t : Bool) (slot : ℕ) → slot < length (object_slots (record { spaces = m; literals = [] }) b) → slot < length (object_slots (record { spaces = marked_if t m a; literals = [] }) b)
marked_count m a b false slot inside = inside
marked_count m a b true slot inside = subst (λ n. slot < n) (sym (change-count set_mark (λ c. refl) m a b)) inside

-- a mark leaves all slots
pub marked_slots : (o : Objects) (v : Value) (b : Addr) (slot : ℕ) → slot < length (object_slots o b) → slot < length (object_slots (with_marked o v) b)
marked_slots o (Ref a) b slot inside = marked_count o.spaces a b (is_white (cell_in o.spaces.old a)) slot inside
marked_slots o (Int32 n) b slot inside = inside
marked_slots o (Int64 n) b slot inside = inside
marked_slots o (Native n) b slot inside = inside

-- after a store to one copy the other one has the slot still
pub other_slot : (o p : Objects) (a b : Addr) (slot w : ℕ) → p ≡ with_slot o a slot w → other_has_slot o a slot ≡ true → option_map (λ (c : Cell). c.other) (object_cell o a) ≡ Some (Some b) → slot < length (object_slots p b)
other_slot o p a b slot w is alike other =
    subst (λ (x : Objects). slot < length (object_slots x b)) (sym is)
    (subst (λ n. slot < n) (sym (change-count (store_slot slot w) (λ c. length-set c.slots slot w) o.spaces a b)) (has_slot o a b slot alike (other_decoded (object_cell o a) (Some b) other)))

-- ---- monitors

-- after a store of a monitor to one copy the other one is there still
pub other_there : (o p : Objects) (a b : Addr) (m : Monitor) → p ≡ with_cell (store_monitor m) o a → is_other_in_heap o a ≡ true → option_map (λ (c : Cell). c.other) (object_cell o a) ≡ Some (Some b) → IsSome (object_cell p b)
other_there o p a b m is there other =
    subst (λ (x : Objects). IsSome (object_cell x b)) (sym is)
    (change-there (store_monitor m) (λ c. refl) o.spaces a b (lies_there o a b there (other_decoded (object_cell o a) (Some b) other)))

-- where both copies are changed alike, it doesn't matter which is which
pub both_alike : (f : Cell → Cell) (o : Objects) (a : Addr) → with_both f f o a ≡ record o { spaces = change_copies f f o.spaces a }
both_alike f o a = by_age (is_old o.spaces a)
  where
    by_age : (t : Bool) → record o { spaces = if t then change_copies f f o.spaces a else change_copies f f o.spaces a } ≡ record o { spaces = change_copies f f o.spaces a }
    by_age true = refl
    by_age false = refl

module _ (o p : Objects) (a : Addr) (m : Monitor) (first : p ≡ with_cell (store_monitor m) o a) where
  -- the objects once the other copy is changed too
  abbrev changed : Option Addr → Objects
  changed r = record o { spaces = change_if (store_monitor m) (change_at (store_monitor m) o.spaces a) r }

  changed_is : (r : Option Addr) → other_of (object_cell o a) ≡ r → with_both_monitors o a m ≡ changed r
  changed_is r other = both_alike (store_monitor m) o a ∙ ap changed other

  pub both_stored : (q : Objects) (b : Addr) → q ≡ with_cell (store_monitor m) p b → other_of (object_cell o a) ≡ Some b → q ≡ with_both_monitors o a m
  both_stored q b second other = second ∙ ap (λ x. with_cell (store_monitor m) x b) first ∙ sym (changed_is (Some b) other)

  pub one_stored : other_of (object_cell o a) ≡ None → p ≡ with_both_monitors o a m
  one_stored other = first ∙ sym (changed_is None other)

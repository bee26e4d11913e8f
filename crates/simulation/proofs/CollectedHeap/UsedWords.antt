-- How much room a heap has for births: stores and marks leave it the same, and a birth takes the words of its object.
use Rattle.std.proofs.Common.{◌≡◌, ◌+◌, ◌-◌, ◌≤◌, ℕ, min, Bool, true, false, if◌then◌else◌, List, [], ◌∷◌, Option, Some, None, refl, sym, ap, ◌∙◌, subst, arith}
use Rattle.std.specs.Option.{option_map_or}
use Rattle.interpreter.specs.cil_model.declared.phases.Phase.{Phase}
use Rattle.interpreter.specs.cil_model.declared.phases.Phase.TheVariants.{Mark, Copy, PreFlip, HeapFlip, ThreadFlip}
use Rattle.interpreter.specs.object_memory.declared.addresses.Addr.{Addr}
use Rattle.interpreter.specs.object_memory.declared.kinds.Kind.{Kind}
use Rattle.interpreter.specs.object_memory.declared.monitors.Monitor.{Monitor}
use Rattle.interpreter.specs.object_memory.declared.values.Value.{Value}
use Rattle.interpreter.specs.object_memory.declared.values.Value.TheVariants.{Ref}
use Rattle.interpreter.specs.object_memory.Cells.{Cell, Cells, cell_in, empty_cell, free_words, literal_number, next_address, size, store_monitor, store_slot, used_words, with_last}
use Rattle.interpreter.specs.object_memory.Objects.{Objects, with_cell, with_literal_monitor, with_slot}
use Rattle.interpreter.specs.object_memory.Spaces.{Spaces, birth_space_of, give_birth, cell_at, change_at, change_copies, change_if, is_old, is_white, mark, marked_if, other_of, room_at, room_for, set_mark}
use Rattle.interpreter.specs.object_memory.declared.birth_spaces.BirthSpace.{BirthSpace}
use Rattle.interpreter.specs.object_memory.declared.birth_spaces.BirthSpace.TheVariants.{InBoth, InNew, InOld, Listed}
use Rattle.interpreter.specs.object_memory.Values.{value_word}
use Rattle.interpreter.specs.instructions.barriers.Barriers.{forward_value, object_born, reaches_both, stored_int, stored_monitor, stored_static, stored_value, with_both, with_both_monitors, with_both_slots, with_marked}
use Rattle.interpreter.proofs.object_memory.Blocks.{used_in, used_last}
use Rattle.interpreter.proofs.object_memory.Rooms.{size-empty}
use Rattle.interpreter.proofs.object_memory.TwoSpaces.TwoBlocks.{slot_keeps}
use Rattle.collector.specs.MarkSteps.{with_all_marked}
use Rattle.collector.proofs.Births.BirthSoundness.{granted}
use Rattle.collector.proofs.HeapStores.ReachedCopies.{changed_by}

-- the same number of words is used of each block, which is as large, and the second one is held alike
pub record UsesAsMuch (m n : Spaces) : Type 0 where
  pub old : used_words n.old.cells ≡ used_words m.old.cells
  pub new : used_words n.new.cells ≡ used_words m.new.cells
  pub old_words : n.old.words ≡ m.old.words
  pub new_words : n.new.words ≡ m.new.words
  pub held : n.is_open ≡ m.is_open

-- each block is as large
pub record AreAsLarge (m n : Spaces) : Type 0 where
  pub old : n.old.words ≡ m.old.words
  pub new : n.new.words ≡ m.new.words

pub as_large : (m n : Spaces) → UsesAsMuch m n → AreAsLarge m n
as_large m n uses = record { old = uses.old_words; new = uses.new_words }

pub large_then : (m n l : Spaces) → AreAsLarge m n → AreAsLarge n l → AreAsLarge m l
large_then m n l f g = record { old = g.old ∙ f.old; new = g.new ∙ f.new }

pub uses_itself : (m : Spaces) → UsesAsMuch m m
uses_itself m = record { old = refl; new = refl; old_words = refl; new_words = refl; held = refl }

pub uses_then : (m n l : Spaces) → UsesAsMuch m n → UsesAsMuch n l → UsesAsMuch m l
uses_then m n l f g = record { old = g.old ∙ f.old; new = g.new ∙ f.new; old_words = g.old_words ∙ f.old_words; new_words = g.new_words ∙ f.new_words; held = g.held ∙ f.held }

-- ---- changes that keep sizes

module _ (f : Cell → Cell) (keeps : (c : Cell) → size (f c) ≡ size c) where
  -- of a cell, where there is one
  pub change_uses : (m : Spaces) (a : Addr) → UsesAsMuch m (change_at f m a)
  change_uses m a = record { old = used_in f keeps m.old a; new = used_in f keeps m.new a; old_words = refl; new_words = refl; held = refl }

  change_if_uses : (m : Spaces) (x : Option Addr) → UsesAsMuch m (change_if f m x)
  change_if_uses m None = uses_itself m
  change_if_uses m (Some b) = change_uses m b

-- of a cell and of its other copy
copies_use : (f g : Cell → Cell) → ((c : Cell) → size (f c) ≡ size c) → ((c : Cell) → size (g c) ≡ size c) → (m : Spaces) (a : Addr) → UsesAsMuch m (change_copies f g m a)
copies_use f g keeps keeps' m a = uses_then m (change_at f m a) (change_copies f g m a) (change_uses f keeps m a) (change_if_uses g keeps' (change_at f m a) (other_of (cell_at m a)))

both_use : (f g : Cell → Cell) → ((c : Cell) → size (f c) ≡ size c) → ((c : Cell) → size (g c) ≡ size c) → (o : Objects) (a : Addr) → UsesAsMuch o.spaces (with_both f g o a).spaces
both_use f g keeps keeps' o a = by_old (is_old o.spaces a)
  where
    by_old : (t : Bool) → UsesAsMuch o.spaces (if t then change_copies f g o.spaces a else change_copies g f o.spaces a)
    by_old true = copies_use f g keeps keeps' o.spaces a
    by_old false = copies_use g f keeps' keeps o.spaces a

-- ---- marks

mark_uses : (m : Spaces) (a : Addr) → UsesAsMuch m (mark m a).0
mark_uses m a = by_white (is_white (cell_in m.old a))
  where
    by_white : (b : Bool) → UsesAsMuch m (marked_if b m a)
    by_white true = let u = change_uses set_mark (λ c. refl) m a in record { old = u.old; new = u.new; old_words = refl; new_words = refl; held = refl }
    by_white false = uses_itself m

-- of what a value refers to
pub marked_uses : (o : Objects) (v : Value) → UsesAsMuch o.spaces (with_marked o v).spaces
marked_uses o (Ref a) = mark_uses o.spaces a
marked_uses o _ = uses_itself o.spaces

-- of what values refer to
pub all_marked_uses : (vs : List Value) (o : Objects) → UsesAsMuch o.spaces (with_all_marked o vs).spaces
all_marked_uses [] o = uses_itself o.spaces
all_marked_uses (v ∷ vs) o = uses_then o.spaces (with_marked o v).spaces (with_all_marked (with_marked o v) vs).spaces (marked_uses o v) (all_marked_uses vs (with_marked o v))

-- ---- stores

slot_uses : (o : Objects) (a : Addr) (slot w : ℕ) → UsesAsMuch o.spaces (with_slot o a slot w).spaces
slot_uses o a slot w = change_uses (store_slot slot w) (slot_keeps slot w) o.spaces a

slots_use : (o : Objects) (a : Addr) (slot : ℕ) (v w : Value) → UsesAsMuch o.spaces (with_both_slots o a slot v w).spaces
slots_use o a slot v w = both_use (store_slot slot (value_word v)) (store_slot slot (value_word w)) (slot_keeps slot (value_word v)) (slot_keeps slot (value_word w)) o a

-- of a value
pub value_uses : (own : Phase) (o : Objects) (a : Addr) (slot : ℕ) (v : Value) → UsesAsMuch o.spaces (stored_value own o a slot v).spaces
value_uses Mark o a slot v = uses_then o.spaces (with_marked o v).spaces (with_slot (with_marked o v) a slot (value_word v)).spaces (marked_uses o v) (slot_uses (with_marked o v) a slot (value_word v))
value_uses Copy o a slot v = slots_use o a slot v (forward_value o v)
value_uses PreFlip o a slot v = slots_use o a slot v (forward_value o v)
value_uses HeapFlip o a slot v = slots_use o a slot v (forward_value o v)
value_uses ThreadFlip o a slot v = slots_use o a slot v v
value_uses _ o a slot v = slot_uses o a slot (value_word v)

-- of a word
pub word_uses : (own : Phase) (o : Objects) (a : Addr) (slot w : ℕ) → UsesAsMuch o.spaces (stored_int own o a slot w).spaces
word_uses own o a slot w = by_both (reaches_both own)
  where
    by_both : (t : Bool) → UsesAsMuch o.spaces (changed_by t (store_slot slot w) (store_slot slot w) o a).spaces
    by_both true = both_use (store_slot slot w) (store_slot slot w) (slot_keeps slot w) (slot_keeps slot w) o a
    by_both false = slot_uses o a slot w

-- of a monitor
pub monitor_uses : (own : Phase) (o : Objects) (a : Addr) (m : Monitor) → UsesAsMuch o.spaces (stored_monitor own o a m).spaces
monitor_uses own o a m = by_both (reaches_both own) (literal_number a)
  where
    by_both : (t : Bool) (l : Option ℕ) →
        UsesAsMuch o.spaces (if t then option_map_or (with_literal_monitor o m) l (with_both_monitors o a m) else option_map_or (with_literal_monitor o m) l (with_cell (store_monitor m) o a)).spaces
    by_both true None = both_use (store_monitor m) (store_monitor m) (λ c. refl) (λ c. refl) o a
    by_both false None = change_uses (store_monitor m) (λ c. refl) o.spaces a
    by_both _ _ = uses_itself o.spaces

-- and of a static field
pub static_uses : (own : Phase) (o : Objects) (statics : List Value) (number : ℕ) (v : Value) → UsesAsMuch o.spaces (stored_static own o statics number v).0.spaces
static_uses Mark o statics number v = marked_uses o v
static_uses _ o statics number v = uses_itself o.spaces

-- ---- room

-- where the same number of words is used the same number is free of each block,
old_stays : (m n : Spaces) → UsesAsMuch m n → free_words n.old ≡ free_words m.old
old_stays m n same = ap (λ w. w - used_words n.old.cells) same.old_words ∙ ap (λ u. m.old.words - u) same.old

new_stays : (m n : Spaces) → UsesAsMuch m n → free_words n.new ≡ free_words m.new
new_stays m n same = ap (λ w. w - used_words n.new.cells) same.new_words ∙ ap (λ u. m.new.words - u) same.new

space_stays : (space : BirthSpace) (m n : Spaces) → UsesAsMuch m n → room_at space n ≡ room_at space m
space_stays InBoth m n same = ap (λ w. min w (free_words n.new)) (old_stays m n same) ∙ ap (λ w. min (free_words m.old) w) (new_stays m n same)
space_stays InNew m n same = new_stays m n same
space_stays _ m n same = old_stays m n same

-- so a thread has the same room for a birth, in each phase
pub room_stays : (own : Phase) (m n : Spaces) → UsesAsMuch m n → room_for own n ≡ room_for own m
room_stays own m n same = ap (λ t. room_at (birth_space_of own t) n) same.held ∙ space_stays (birth_space_of own m.is_open) m n same

-- ---- births

-- a cell after all others takes its words of what is free,
last_takes : (s : Cells) (c : Cell) → size c ≤ free_words s → free_words (with_last s c) + size c ≡ free_words s
last_takes s c fits = omega (arith, used_last s c, fits)

-- an empty one three and one for each slot,
empty_takes : (s : Cells) (k : Kind) (n : ℕ) (marked : Bool) (other : Option Addr) → 3 + n ≤ free_words s → free_words (with_last s (empty_cell k n marked other)) + (3 + n) ≡ free_words s
empty_takes s k n marked other fits =
    let same : size (empty_cell k n marked other) ≡ 3 + n = size-empty k n marked other in
    subst (λ w. free_words (with_last s (empty_cell k n marked other)) + w ≡ free_words s) same
    (last_takes s (empty_cell k n marked other) (subst (λ w. w ≤ free_words s) (sym same) fits))

least_takes : (a b x y w : ℕ) → a + w ≡ x → b + w ≡ y → min a b + w ≡ min x y
least_takes a b x y w old new = omega arith

-- and so a birth in each space
space_takes : (space : BirthSpace) (m : Spaces) (k : Kind) (n : ℕ) → 3 + n ≤ room_at space m → room_at space (give_birth space m k n) + (3 + n) ≡ room_at space m
space_takes InOld m k n fits = empty_takes m.old k n false None fits
space_takes Listed m k n fits = empty_takes m.old k n true None fits
space_takes InBoth m k n fits =
    let in_old : 3 + n ≤ free_words m.old = omega (arith, fits) in
    let in_new : 3 + n ≤ free_words m.new = omega (arith, fits) in
    least_takes (free_words (give_birth InBoth m k n).old) (free_words (give_birth InBoth m k n).new) (free_words m.old) (free_words m.new) (3 + n)
    (empty_takes m.old k n true (Some (next_address m.new)) in_old)
    (empty_takes m.new k n true (Some (next_address m.old)) in_new)
space_takes InNew m k n fits = empty_takes m.new k n false None fits

-- which leaves the second block held as it was
born_held : (space : BirthSpace) (m : Spaces) (k : Kind) (n : ℕ) → (give_birth space m k n).is_open ≡ m.is_open
born_held InOld m k n = refl
born_held _ m k n = refl

-- a birth leaves each block as large
born_large : (space : BirthSpace) (m : Spaces) (k : Kind) (n : ℕ) → AreAsLarge m (give_birth space m k n)
born_large InOld m k n = record { old = refl; new = refl }
born_large _ m k n = record { old = refl; new = refl }

pub birth_large : (own : Phase) (o : Objects) (k : Kind) (count : ℕ) (o' : Objects) (a : Addr) → ◌≡◌ {A = Objects × Option Addr} (object_born own o k count) (o', Some a) → AreAsLarge o.spaces o'.spaces
birth_large own o k count o' a e = subst (λ (x : Objects). AreAsLarge o.spaces x.spaces) (granted own o k count o' a e).1 (born_large (birth_space_of own o.spaces.is_open) o.spaces k count)

-- no block has more words in use than before and these
pub record AddsAtMost (words : ℕ) (m n : Spaces) : Type 0 where
  pub old : used_words n.old.cells ≤ used_words m.old.cells + words
  pub new : used_words n.new.cells ≤ used_words m.new.cells + words

empty_adds : (s : Cells) (k : Kind) (n : ℕ) (marked : Bool) (other : Option Addr) → used_words (with_last s (empty_cell k n marked other)).cells ≤ used_words s.cells + (3 + n)
empty_adds s k n marked other =
    let same : size (empty_cell k n marked other) ≡ 3 + n = size-empty k n marked other in
    omega (arith, used_last s (empty_cell k n marked other), same)

space_adds : (space : BirthSpace) (m : Spaces) (k : Kind) (n : ℕ) → AddsAtMost (3 + n) m (give_birth space m k n)
space_adds InOld m k n = record { old = empty_adds m.old k n false None; new = omega arith }
space_adds Listed m k n = record { old = empty_adds m.old k n true None; new = omega arith }
space_adds InBoth m k n = record { old = empty_adds m.old k n true (Some (next_address m.new)); new = empty_adds m.new k n true (Some (next_address m.old)) }
space_adds InNew m k n = record { old = omega arith; new = empty_adds m.new k n false None }

-- a birth adds no more than its object's words to a block, in each phase
pub birth_adds : (own : Phase) (o : Objects) (k : Kind) (count : ℕ) (o' : Objects) (a : Addr) → ◌≡◌ {A = Objects × Option Addr} (object_born own o k count) (o', Some a) → AddsAtMost (3 + count) o.spaces o'.spaces
birth_adds own o k count o' a e =
    subst (λ (x : Objects). AddsAtMost (3 + count) o.spaces x.spaces) (granted own o k count o' a e).1 (space_adds (birth_space_of own o.spaces.is_open) o.spaces k count)

-- a birth takes its object's words of the thread's room, in each phase
pub birth_takes : (own : Phase) (o : Objects) (k : Kind) (count : ℕ) (o' : Objects) (a : Addr) → ◌≡◌ {A = Objects × Option Addr} (object_born own o k count) (o', Some a) → room_for own o'.spaces + (3 + count) ≡ room_for own o.spaces
birth_takes own o k count o' a e =
    let space : BirthSpace = birth_space_of own o.spaces.is_open in
    let birth = granted own o k count o' a e in
    subst (λ (x : Objects). room_for own x.spaces + (3 + count) ≡ room_for own o.spaces) birth.1
    (ap (λ t. room_at (birth_space_of own t) (give_birth space o.spaces k count) + (3 + count)) (born_held space o.spaces k count) ∙ space_takes space o.spaces k count birth.0)

-- What a thread does until Allocate is posted leaves no more to mark: its stores, its marks and its births.
use Rattle.std.proofs.Common.{◌≡◌, ℕ, true, List, [], ◌∷◌, Option, Some, None, refl, subst}
use Rattle.std.specs.Option.{option_map_or}
use Rattle.std.proofs.lemmas.List.{length-set}
use Rattle.interpreter.specs.cil_model.declared.phases.Phase.{Phase}
use Rattle.interpreter.specs.cil_model.declared.phases.Phase.TheVariants.{Idle, Mark}
use Rattle.interpreter.specs.object_memory.declared.addresses.Addr.{Addr}
use Rattle.interpreter.specs.object_memory.declared.kinds.Kind.{Kind}
use Rattle.interpreter.specs.object_memory.declared.monitors.Monitor.{Monitor}
use Rattle.interpreter.specs.object_memory.declared.values.Value.{Value}
use Rattle.interpreter.specs.object_memory.declared.values.Value.TheVariants.{Ref}
use Rattle.interpreter.specs.object_memory.Cells.{literal_number, store_monitor, store_slot}
use Rattle.interpreter.specs.object_memory.Objects.{Objects, with_cell, with_literal_monitor, with_slot}
use Rattle.interpreter.specs.object_memory.Values.{value_word}
use Rattle.interpreter.specs.instructions.barriers.Barriers.{object_born, stored_int, stored_monitor, stored_static, stored_value, with_marked}
use Rattle.collector.specs.MarkSteps.{with_all_marked}
use Rattle.collector.specs.Phases.{is_before_copies}
use Rattle.collector.proofs.Births.BirthSoundness.{granted}
use Rattle.simulation.proofs.CycleBounds.MarkingWork.{LeavesNoMore, change_leaves, leaves_itself, leaves_then, listed_birth_leaves, mark_leaves, old_birth_leaves}

-- ---- marks

-- of what a value refers to
pub value_mark_leaves : (o : Objects) (v : Value) → LeavesNoMore o.spaces (with_marked o v).spaces
value_mark_leaves o (Ref a) = mark_leaves o.spaces a
value_mark_leaves o _ = leaves_itself o.spaces

-- and of all that a list does
pub all_marks_stay : (vs : List Value) (o : Objects) → LeavesNoMore o.spaces (with_all_marked o vs).spaces
all_marks_stay [] o = leaves_itself o.spaces
all_marks_stay (v ∷ vs) o = leaves_then o.spaces (with_marked o v).spaces (with_all_marked (with_marked o v) vs).spaces (value_mark_leaves o v) (all_marks_stay vs (with_marked o v))

-- ---- stores

slot_leaves : (o : Objects) (a : Addr) (slot w : ℕ) → LeavesNoMore o.spaces (with_slot o a slot w).spaces
slot_leaves o a slot w = change_leaves (store_slot slot w) (λ c. length-set c.slots slot w) (λ c. refl) o.spaces a

pub value_leaves : (own : Phase) → is_before_copies own ≡ true → (o : Objects) (a : Addr) (slot : ℕ) (v : Value) → LeavesNoMore o.spaces (stored_value own o a slot v).spaces
value_leaves Idle early o a slot v = slot_leaves o a slot (value_word v)
value_leaves Mark early o a slot v =
    leaves_then o.spaces (with_marked o v).spaces (with_slot (with_marked o v) a slot (value_word v)).spaces (value_mark_leaves o v) (slot_leaves (with_marked o v) a slot (value_word v))
value_leaves _ early o a slot v = absurd cc

pub word_leaves : (own : Phase) → is_before_copies own ≡ true → (o : Objects) (a : Addr) (slot w : ℕ) → LeavesNoMore o.spaces (stored_int own o a slot w).spaces
word_leaves Idle early o a slot w = slot_leaves o a slot w
word_leaves Mark early o a slot w = slot_leaves o a slot w
word_leaves _ early o a slot w = absurd cc

-- the monitor of an object; a literal's is no part of the blocks
one_monitor_leaves : (o : Objects) (a : Addr) (m : Monitor) (l : Option ℕ) → LeavesNoMore o.spaces (option_map_or (with_literal_monitor o m) l (with_cell (store_monitor m) o a)).spaces
one_monitor_leaves o a m None = change_leaves (store_monitor m) (λ c. refl) (λ c. refl) o.spaces a
one_monitor_leaves o a m (Some n) = leaves_itself o.spaces

pub monitor_leaves : (own : Phase) → is_before_copies own ≡ true → (o : Objects) (a : Addr) (m : Monitor) → LeavesNoMore o.spaces (stored_monitor own o a m).spaces
monitor_leaves Idle early o a m = one_monitor_leaves o a m (literal_number a)
monitor_leaves Mark early o a m = one_monitor_leaves o a m (literal_number a)
monitor_leaves _ early o a m = absurd cc

pub static_leaves : (own : Phase) → is_before_copies own ≡ true → (o : Objects) (statics : List Value) (number : ℕ) (v : Value) → LeavesNoMore o.spaces (stored_static own o statics number v).0.spaces
static_leaves Idle early o statics number v = leaves_itself o.spaces
static_leaves Mark early o statics number v = value_mark_leaves o v
static_leaves _ early o statics number v = absurd cc

-- ---- births

pub birth_leaves : (own : Phase) → is_before_copies own ≡ true → (o : Objects) (k : Kind) (n : ℕ) (o' : Objects) (a : Addr) → ◌≡◌ {A = Objects × Option Addr} (object_born own o k n) (o', Some a) → LeavesNoMore o.spaces o'.spaces
birth_leaves Idle early o k n o' a e = (let birth = granted Idle o k n o' a e in subst (λ (x : Objects). LeavesNoMore o.spaces x.spaces) birth.1 (old_birth_leaves o.spaces k n birth.0))
birth_leaves Mark early o k n o' a e = (let birth = granted Mark o k n o' a e in subst (λ (x : Objects). LeavesNoMore o.spaces x.spaces) birth.1 (listed_birth_leaves o.spaces k n birth.0))
birth_leaves _ early o k n o' a e = absurd cc

-- What a thread may hold before a store it may hold after it, and the store begins nothing of the collector's work.
use Rattle.std.proofs.Common.{◌≡◌, ℕ, Bool, true, false, List, refl, sym, ◌∙◌, subst}
use Rattle.std.specs.Prelude.{if◌then◌else◌, Option, None}
use Rattle.std.specs.Option.{option_map_or}
use Rattle.cil_model.specs.declared.phases.Phase.{Phase}
use Rattle.cil_model.specs.declared.phases.Phase.TheVariants.{Idle, Mark, Allocate, Copy, PreFlip, HeapFlip, ThreadFlip, Reclaim}
use Rattle.object_memory.specs.declared.addresses.Addr.{Addr}
use Rattle.object_memory.specs.declared.monitors.Monitor.{Monitor}
use Rattle.object_memory.specs.declared.values.Value.{Value}
use Rattle.object_memory.specs.Cells.{Cell, literal_number, store_monitor, store_slot}
use Rattle.object_memory.specs.Spaces.{Spaces, change_copies, is_old}
use Rattle.object_memory.specs.Objects.{Objects, with_literal_monitor}
use Rattle.object_memory.specs.Values.{value_word}
use Rattle.barriers.specs.Barriers.{forward_value, reaches_both, stored_int, stored_monitor, stored_static, stored_value, with_both_monitors, with_marked}
use Rattle.collector.specs.Soundness.{IsListed}
use Rattle.collector.specs.Holds.{HasNotBegun}
use Rattle.collector.specs.declared.progress.Progress.{Progress}
use Rattle.collector.proofs.Addresses.TagChanges.{AreAlike, KeepsTags, alike_itself, change_alike, copies_alike, monitor_keeps_tags, slot_keeps_tags}
use Rattle.collector.proofs.HeapStores.ReachedCopies.{changed_by}

-- ---- what is alike

-- a collector that has not begun has not begun still
pub alike_not_begun : (m n : Spaces) → AreAlike m n → (posted_phase : Phase) (has_round : Bool) (p : Progress) → HasNotBegun posted_phase has_round p m → HasNotBegun posted_phase has_round p n
alike_not_begun m n alike posted_phase has_round p late = record {
  nothing = late.nothing;
  no_round = late.no_round;
  all_grey = λ mark a h. subst (λ grey. IsListed grey a) (sym alike.grey) (late.all_grey mark a (sym (alike.marked a) ∙ h));
}

-- the same addresses are live, marked and new after a change of one copy or both
pub changed_alike : (both : Bool) (f g : Cell → Cell) → KeepsTags f → KeepsTags g → (o : Objects) (a : Addr) → AreAlike o.spaces (changed_by both f g o a).spaces
changed_alike true f g keeps keeps' o a = by_age (is_old o.spaces a)
  where
    by_age : (t : Bool) → AreAlike o.spaces (if t then change_copies f g o.spaces a else change_copies g f o.spaces a)
    by_age true = copies_alike f g keeps keeps' o.spaces a
    by_age false = copies_alike g f keeps' keeps o.spaces a
changed_alike false f g keeps keeps' o a = change_alike f keeps o.spaces a

-- ---- values

-- the objects once a thread in Mark has marked the value
abbrev pub marked_first : Phase → Objects → Value → Objects
marked_first Idle o v = o
marked_first Mark o v = with_marked o v
marked_first Allocate o v = o
marked_first Copy o v = o
marked_first PreFlip o v = o
marked_first HeapFlip o v = o
marked_first ThreadFlip o v = o
marked_first Reclaim o v = o

slots_changed : (both : Bool) (o : Objects) (a : Addr) (slot w w' : ℕ) → AreAlike o.spaces (changed_by both (store_slot slot w) (store_slot slot w') o a).spaces
slots_changed both o a slot w w' = changed_alike both (store_slot slot w) (store_slot slot w') (slot_keeps_tags slot w) (slot_keeps_tags slot w') o a

module _ (o : Objects) (a : Addr) (slot : ℕ) (v : Value) where
  -- the same addresses are live, marked and new after a store as after its mark
  pub value_alike : (own : Phase) → AreAlike (marked_first own o v).spaces (stored_value own o a slot v).spaces
  value_alike Mark = slots_changed false (with_marked o v) a slot (value_word v) (value_word v)
  value_alike Copy = slots_changed true o a slot (value_word v) (value_word (forward_value o v))
  value_alike PreFlip = slots_changed true o a slot (value_word v) (value_word (forward_value o v))
  value_alike HeapFlip = slots_changed true o a slot (value_word v) (value_word (forward_value o v))
  value_alike ThreadFlip = slots_changed true o a slot (value_word v) (value_word v)
  value_alike _ = slots_changed false o a slot (value_word v) (value_word v)

-- ---- words and monitors

module _ (own : Phase) (o : Objects) (a : Addr) where
  -- a word changes nothing of what is live, marked or new
  pub word_alike : (slot word : ℕ) → AreAlike o.spaces (stored_int own o a slot word).spaces
  word_alike slot word = slots_changed (reaches_both own) o a slot word word

  -- nor does a monitor
  pub monitor_alike : (m : Monitor) → AreAlike o.spaces (stored_monitor own o a m).spaces
  monitor_alike m = by_both (reaches_both own) (literal_number a)
    where
      by_both : (t : Bool) (r : Option ℕ) → AreAlike o.spaces (if t then option_map_or (with_literal_monitor o m) r (with_both_monitors o a m) else option_map_or (with_literal_monitor o m) r (changed_by false (store_monitor m) (store_monitor m) o a)).spaces
      by_both true None = changed_alike true (store_monitor m) (store_monitor m) (monitor_keeps_tags m) (monitor_keeps_tags m) o a
      by_both false None = changed_alike false (store_monitor m) (store_monitor m) (monitor_keeps_tags m) (monitor_keeps_tags m) o a
      by_both _ _ = alike_itself o.spaces

-- ---- static fields

module _ (o : Objects) (statics : List Value) (number : ℕ) (v : Value) where
  -- a thread in Mark alone changes the heap, by a mark
  pub static_marks : (own : Phase) → (stored_static own o statics number v).0 ≡ marked_first own o v
  static_marks Idle = refl
  static_marks _ = refl

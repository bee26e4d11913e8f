-- The rule of the shared words. With m slots and n seats, word k is the first copy of slot k, word m + k the second, word 2 m + j the stage that seat j has taken up, and word 2 m + n the stage (this profile).
use Rattle.std.specs.Prelude.{◌≡◌, ◌⊎◌, ℕ, ◌+◌, ◌*◌, ◌<◌, ◌≤◌, Bool, true, false, Some, None, List, [], length, replicate, slice_index, slice_index_or}
use Rattle.std.specs.List.{Contains}
use mathlib.Core.Option.{some}
use lib.ListN.{get_elem?}
use Rattle.atomic_table.specs.Table.{State}
use Rattle.epoch_words.specs.Tokens.{FoundAll, IsPostedOrOneLess}
use Rattle.flip_table.specs.declared.slot_table.CopierView.{CopierView}
use Rattle.flip_table.specs.declared.slot_table.PlanView.{PlanView}
use Rattle.flip_table.specs.declared.slot_table.View.{View}
use Rattle.flip_table.specs.declared.slot_table.View.TheVariants.{OfWriter, OfCopier}
use Rattle.flip_table.specs.declared.slot_table.WriterView.{WriterView}

-- the word in a first copy that was retired
abbrev pub retired_mark : ℕ
retired_mark = 65536

-- how the second copy says a value: null is 0 in both
abbrev pub forward : ℕ → ℕ
forward value = 131072 * value

-- The value is null, or was once written to slot k.
abbrev pub IsAmong : List (ℕ × ℕ) → ℕ → ℕ → Type 0
IsAmong wrote k value = (value ≡ 0) ⊎ Contains wrote (k, value)

-- Slot k has its mark in this list.
abbrev pub IsMarked : List Bool → ℕ → Type 0
IsMarked marks k = slice_index_or marks k false ≡ true

abbrev pub AllMarked : List Bool → Type 0
AllMarked marks = (k : ℕ) → k < length marks → IsMarked marks k

-- The second copy says what the writer of slot k last wrote, or its writer has yet to store it.
abbrev pub SaysWritten : ℕ → ℕ → WriterView → Type 0
SaysWritten second k q = (q.pending ≡ Some k) ⊎ (second ≡ forward (slice_index q.written k))

-- What holds of slot k with these two copies, whoever its writer is.
pub record IsSlot (limit first second k owner : ℕ) (p : CopierView) : Type 0 where
  pub live : ¬ IsMarked p.retired k → first < limit
  pub dead : IsMarked p.retired k → first ≡ retired_mark
  pub small : (x : ℕ) × (x < limit) × (second ≡ forward x)
  pub unwritten : p.dealt ≤ owner → (first ≡ 0) × (second ≡ forward 0) × (p.copying ≡ Some k → p.value ≡ 0)

-- The same, where its writer knows q. The last three: each live word of the slot is null or among what its writer wrote.
pub record IsTwin (first second k : ℕ) (q : WriterView) (p : CopierView) : Type 0 where
  pub first_is : q.taken_up ≤ 1 → first ≡ slice_index q.written k
  pub same : IsMarked p.copied k → SaysWritten second k q
  pub checked : p.copying ≡ Some k → p.stored ≡ true → (second ≡ forward p.value) ⊎ SaysWritten second k q
  pub wrote_first : ¬ IsMarked p.retired k → IsAmong q.wrote k first
  pub wrote_second : (x : ℕ) → second ≡ forward x → IsAmong q.wrote k x
  pub wrote_value : p.copying ≡ Some k → IsAmong q.wrote k p.value

-- What the writer of seat j knows, whose view has the position j + 1.
pub record IsWriterView (words : List ℕ) (plan : PlanView) (position : ℕ) (q : WriterView) : Type 0 where
  pub plan_is : q.plan ≡ plan
  pub position_is : position ≡ q.index + 1
  pub in_range : q.index < plan.seats
  pub taken_up_is : slice_index words (length plan.owners + length plan.owners + q.index) ≡ q.taken_up
  pub taken_up_polled : q.taken_up ≤ q.polled
  pub polled_stage : q.polled ≤ slice_index words (length plan.owners + length plan.owners + plan.seats)
  pub written_each : length q.written ≡ length plan.owners
  pub wrote_written : (k : ℕ) → k < length plan.owners → IsAmong q.wrote k (slice_index q.written k)
  pub none_pending : 1 < q.taken_up → q.pending ≡ None

-- What the copier knows, whose view has the position 0 of all positions.
pub record IsCopierView (words : List ℕ) (plan : PlanView) (positions position : ℕ) (p : CopierView) : Type 0 where
  pub plan_is : p.plan ≡ plan
  pub position_is : position ≡ 0
  pub positions_are : positions ≡ p.dealt + 1
  pub stage_is : slice_index words (length plan.owners + length plan.owners + plan.seats) ≡ p.stage
  pub last : p.stage ≤ 2
  pub found_each : length p.found ≡ plan.seats
  pub found_since : (j : ℕ) → j < plan.seats → slice_index p.found j ≤ slice_index words (length plan.owners + length plan.owners + j)
  pub undealt_is : (j : ℕ) → p.dealt ≤ j → j < plan.seats → slice_index words (length plan.owners + length plan.owners + j) ≡ 0
  pub copied_each : length p.copied ≡ length plan.owners
  pub retired_each : length p.retired ≡ length plan.owners
  pub all_copied : 0 < p.stage → AllMarked p.copied
  pub all_found : (k : ℕ) → IsMarked p.retired k → FoundAll plan.seats 2 p.found

abbrev pub Knows : List ℕ → PlanView → ℕ → ℕ → View → Type 0
Knows words plan positions position (OfWriter q) = IsWriterView words plan position q
Knows words plan positions position (OfCopier p) = IsCopierView words plan positions position p

-- Every step keeps this.
pub record KeepsFlip (plan : PlanView) (table : State (Unit {0}) View) : Type 0 where
  pub words_are : length table.words ≡ length plan.owners + length plan.owners + plan.seats + 1
  pub owned : (k : ℕ) → k < length plan.owners → slice_index plan.owners k < plan.seats
  pub within_one_stage : (j : ℕ) → j < plan.seats
      → IsPostedOrOneLess (slice_index table.words (length plan.owners + length plan.owners + j)) (slice_index table.words (length plan.owners + length plan.owners + plan.seats))
  pub known : (position : ℕ) (view : View) → get_elem? table.views position ≡ some view → Knows table.words plan (length table.views) position view
  pub copier : CopierView
  pub copier_is : get_elem? table.views 0 ≡ some (OfCopier copier)
  pub slots : (k : ℕ) → k < length plan.owners
      → IsSlot plan.limit (slice_index table.words k) (slice_index table.words (length plan.owners + k)) k (slice_index plan.owners k) copier
  pub twins : (k : ℕ) (q : WriterView) → k < length plan.owners → get_elem? table.views (slice_index plan.owners k + 1) ≡ some (OfWriter q)
      → IsTwin (slice_index table.words k) (slice_index table.words (length plan.owners + k)) k q copier

-- the copier once this number of writers is given out, before any step
abbrev pub dealt_copier : PlanView → ℕ → CopierView
dealt_copier plan dealt = record {
  plan = plan;
  stage = 0;
  dealt = dealt;
  found = replicate plan.seats 0;
  looks = 0;
  looked_at = 0;
  copying = None;
  value = 0;
  stored = false;
  checks = 0;
  checked_slot = 0;
  first_load = 0;
  second_load = 0;
  copied = replicate (length plan.owners) false;
  retired = replicate (length plan.owners) false;
}

-- the writer of a seat before any step
abbrev pub initial_writer : PlanView → ℕ → WriterView
initial_writer plan index = record {
  plan = plan;
  index = index;
  taken_up = 0;
  polled = 0;
  polls = 0;
  loads = 0;
  loaded_word = 0;
  loaded = 0;
  written = replicate (length plan.owners) 0;
  wrote = [];
  pending = None;
}

-- the copier before any writer is given out
abbrev pub initial_view : PlanView → View
initial_view plan = OfCopier (dealt_copier plan 0)

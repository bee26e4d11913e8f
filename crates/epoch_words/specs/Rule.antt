-- The rule of the shared words. With n seats, word j is what seat j has seen, for j below n, and word n is the posted number (this profile).
use Rattle.std.specs.Prelude.{◌≡◌, ℕ, ◌+◌, ◌<◌, ◌≤◌, List, length, replicate, slice_index}
use mathlib.Core.Option.{some}
use lib.ListN.{get_elem?}
use Rattle.atomic_table.specs.Table.{State}
use Rattle.epoch_words.specs.Tokens.{IsPostedOrOneLess}
use Rattle.epoch_words.specs.declared.word_table.HeraldView.{HeraldView}
use Rattle.epoch_words.specs.declared.word_table.SeatView.{SeatView}
use Rattle.epoch_words.specs.declared.word_table.View.{View}
use Rattle.epoch_words.specs.declared.word_table.View.TheVariants.{OfSeat, OfHerald}

-- the herald once this number of seats is given out, before any step
abbrev pub dealt_herald : ℕ → ℕ → HeraldView
dealt_herald workers dealt = record { posted = 0; dealt = dealt; found = replicate workers 0; looks = 0; looked_at = 0 }

-- the herald before any seat is given out
abbrev pub initial_view : ℕ → View
initial_view workers = OfHerald (dealt_herald workers 0)

-- Each seat's number keeps to the posted one.
abbrev pub AreWithinOneEpoch : ℕ → List ℕ → Type 0
AreWithinOneEpoch workers words = (j : ℕ) → j < workers → IsPostedOrOneLess (slice_index words j) (slice_index words workers)

-- What seat j knows, whose view has the position j + 1: its own number, and that the posted one has not fallen below what it polled.
pub record IsSeatView (words : List ℕ) (workers position : ℕ) (seat : SeatView) : Type 0 where
  pub position_is : position ≡ seat.index + 1
  pub in_range : seat.index < workers
  pub seen_is : slice_index words seat.index ≡ seat.seen
  pub seen_polled : seat.seen ≤ seat.polled
  pub polled_posted : seat.polled ≤ slice_index words workers

-- What the herald knows, whose view has the position 0 of all positions: the posted number, and that no seat's number has fallen below what was found.
pub record IsHeraldView (words : List ℕ) (workers positions position : ℕ) (herald : HeraldView) : Type 0 where
  pub position_is : position ≡ 0
  pub positions_are : positions ≡ herald.dealt + 1
  pub found_each : length herald.found ≡ workers
  pub posted_is : slice_index words workers ≡ herald.posted
  pub found_since : (j : ℕ) → j < workers → slice_index herald.found j ≤ slice_index words j
  pub undealt_is : (j : ℕ) → herald.dealt ≤ j → j < workers → slice_index words j ≡ 0

abbrev pub Knows : List ℕ → ℕ → ℕ → ℕ → View → Type 0
Knows words workers positions position (OfSeat seat) = IsSeatView words workers position seat
Knows words workers positions position (OfHerald herald) = IsHeraldView words workers positions position herald

-- Every step keeps this: the words are paced, and what each holder of a token knows is true.
pub record KeepsEpochs (workers : ℕ) (table : State (Unit {0}) View) : Type 0 where
  pub words_are : length table.words ≡ workers + 1
  pub within_one_epoch : AreWithinOneEpoch workers table.words
  pub known : (position : ℕ) (view : View) → get_elem? table.views position ≡ some view → Knows table.words workers (length table.views) position view

-- What callers see of the epochs, the seats and the herald (this profile).
use Rattle.std.specs.Prelude.{◌≡◌, ℕ, ◌+◌, ◌<◌, ◌≤◌, List, map, length, replicate, slice_index}
use Rattle.std.specs.List.{range_with_len}
use Rattle.atomic_table.specs.Seated.{TableId}

-- `table` says of which epochs something is: no two have the same.
pub record EpochsValue : Type 0 where
  pub table : TableId
  pub workers : ℕ

-- `polls` counts the seat's loads of the posted number, and `polled` is what the last one gave.
pub record SeatValue : Type 0 where
  pub table : TableId
  pub index : ℕ
  pub seen : ℕ
  pub polled : ℕ
  pub polls : ℕ

-- `found` has for each seat the number that the herald last found it to have seen. `looks` counts its looks, each a load of a seat's number, and `looked_at` is the seat of the last one.
pub record HeraldValue : Type 0 where
  pub table : TableId
  pub posted : ℕ
  pub found : List ℕ
  pub looks : ℕ
  pub looked_at : ℕ

-- THE RULE: every seen number is the posted one or one less.
abbrev pub IsPostedOrOneLess : ℕ → ℕ → Type 0
IsPostedOrOneLess seen posted = (seen ≤ posted) × (posted ≤ seen + 1)

abbrev pub initial_seat : TableId → ℕ → SeatValue
initial_seat table index = record { table = table; index = index; seen = 0; polled = 0; polls = 0 }

-- the seats 0, 1, .. before any step
abbrev pub initial_seats : TableId → ℕ → List SeatValue
initial_seats table workers = map (initial_seat table) (range_with_len 0 workers)

-- the herald before any step
abbrev pub initial_herald : TableId → ℕ → HeraldValue
initial_herald table workers = record { table = table; posted = 0; found = replicate workers 0; looks = 0; looked_at = 0 }

-- Each of this number of seats was found to have seen the posted number.
abbrev pub FoundAll : ℕ → ℕ → List ℕ → Type 0
FoundAll workers posted found = (j : ℕ) → j < workers → slice_index found j ≡ posted

-- The seat of the last look is the first one that was found not to have seen the posted number.
abbrev pub FoundLate : ℕ → ℕ → List ℕ → ℕ → Type 0
FoundLate workers posted found looked_at = (looked_at < workers) × FoundAll looked_at posted found × (slice_index found looked_at < posted)

-- No seat was found to have seen less than was found before.
abbrev pub FindsNoLess : List ℕ → List ℕ → Type 0
FindsNoLess before after = (length after ≡ length before) × ((j : ℕ) → slice_index before j ≤ slice_index after j)

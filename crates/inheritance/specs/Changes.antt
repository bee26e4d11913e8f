-- What each key finds, as it changes in the course of time.
use Rattle.std.specs.Prelude.{◌≡◌, ◌<◌, ◌+◌, ◌++◌, ℕ, Bool, true, ◌&&◌, ◌==◌, nat_le, if◌then◌else◌, List, [], ◌∷◌, length, Option, None, Some, slice_index_or, slice_set}
use Rattle.std.specs.Option.{option_map_or}
use Rattle.std.specs.List.{list_all, position_from}
use Rattle.inheritance.specs.declared.changes.Declared.{Declared}
use Rattle.inheritance.specs.declared.changes.Change.{Change}
use Rattle.inheritance.specs.declared.changes.Source.{Source}
use Rattle.inheritance.specs.declared.changes.Source.TheVariants.{Nothing, Class, Time}

-- what is found at a time: what the last change up to it says
abbrev pub latest_known : Option Declared → ℕ → List Change → Option Declared
latest_known before time [] = before
latest_known before time (c ∷ cs) = latest_known (if nat_le c.time time then c.found else before) time cs

-- no change is of a later time than one after it
abbrev pub is_ordered : List Change → Bool
is_ordered [] = true
is_ordered (c ∷ cs) = list_all (λ (d : Change). nat_le c.time d.time) cs && is_ordered cs

-- no change is of a later time
abbrev pub is_past : ℕ → List Change → Bool
is_past time cs = list_all (λ (c : Change). nat_le c.time time) cs

-- the changes of a key
abbrev pub changes_of : List (List Change) → ℕ → List Change
changes_of rows key = slice_index_or rows key []

-- what a key finds at a time
abbrev pub known_of : List (List Change) → ℕ → ℕ → Option Declared
known_of rows key time = latest_known None time (changes_of rows key)

-- one more change of a key
abbrev pub with_change : List (List Change) → ℕ → Change → List (List Change)
with_change rows key change = slice_set rows key (changes_of rows key ++ change ∷ [])

-- the changes of each key are in order
abbrev pub AreOrdered : List (List Change) → Type 0
AreOrdered rows = (key : ℕ) → is_ordered (changes_of rows key) ≡ true

-- they are in order, and of no later time
pub record AreUpTo (time : ℕ) (rows : List (List Change)) : Type 0 where
  pub ordered : (key : ℕ) → is_ordered (changes_of rows key) ≡ true
  pub past : (key : ℕ) → is_past time (changes_of rows key) ≡ true

-- one more change of a key, where there is such a key
pub record AddsChange (old new : List (List Change)) (key : ℕ) (change : Change) : Type 0 where
  pub width : length new ≡ length old
  pub up_to : AreUpTo change.time old → AreUpTo change.time new
  pub found : (q t : ℕ) → q < length old → known_of new q t ≡ (if (q == key) && nat_le change.time t then change.found else known_of old q t)

-- what a key that a class declares at an index finds from then on: it there, what was found at an earlier time, or nothing
abbrev pub found_from : List (List Change) → Source → ℕ → ℕ → Option Declared
found_from rows Nothing key index = None
found_from rows (Class class) key index = Some (record { class = class; index = index })
found_from rows (Time time) key index = known_of rows key time

-- it speaks of no time from this one on
abbrev pub is_earlier : ℕ → Source → Bool
is_earlier time Nothing = true
is_earlier time (Class class) = true
is_earlier time (Time earlier) = nat_le (earlier + 1) time

-- each of these keys finds another declaration from a time on, by the first index at which it occurs
pub record AddsChanges (old new : List (List Change)) (keys : List ℕ) (first : ℕ) (source : Source) (time : ℕ) : Type 0 where
  pub width : length new ≡ length old
  pub up_to : AreUpTo time old → AreUpTo time new
  pub found : (q t : ℕ) → q < length old → known_of new q t ≡ (if nat_le time t then option_map_or (found_from old source q) (position_from (λ k. q == k) first keys) (known_of old q t) else known_of old q t)

-- What is sought among what keys find, and the times at which one of some keys finds it.
use Rattle.std.specs.Prelude.{◌≡◌, ◌≤◌, ◌<◌, ◌+◌, ◌++◌, ℕ, zero, suc, Bool, true, List, [], ◌∷◌, length, map, nat_lt, Option, Some, None, is_none, slice_index_or}
use Rattle.std.specs.List.{list_any}
use Rattle.inheritance.specs.declared.changes.Change.{Change}
use Rattle.inheritance.specs.declared.forests.Forest.{Forest}
use Rattle.inheritance.specs.declared.query.Query.{Query}
use Rattle.inheritance.specs.declared.query.Query.TheVariants.{Marked, Absent}
use Rattle.inheritance.specs.Changes.{known_of}
use Rattle.inheritance.specs.ScopedTables.{pair_of, nearest_from}
use Rattle.inheritance.specs.MarkedDeclarations.{is_marked}

-- whether what is found, a class and an index or nothing, is what is sought
abbrev pub is_match : Query → Option (ℕ × ℕ) → Bool
is_match (Marked marks) found = is_marked (map (λ v. v.items) marks.now) found
is_match Absent found = is_none found

-- some of these keys finds from a class on what passes a test
abbrev pub finds_some : (Option (ℕ × ℕ) → Bool) → Forest → List ℕ → ℕ → Bool
finds_some test forest keys class = list_any (λ key. test (nearest_from forest key forest.most (Some class))) keys

-- some of these keys finds at a time what passes a test
abbrev pub finds_at : (Option (ℕ × ℕ) → Bool) → List (List Change) → List ℕ → ℕ → Bool
finds_at test rows keys time = list_any (λ key. test (pair_of (known_of rows key time))) keys

-- before its first change a key finds nothing
abbrev pub at_first : Change
at_first = record { time = 0; found = None }

-- the time from which on these changes find another declaration, where that is before a last time
abbrev pub next_time : ℕ → List Change → ℕ
next_time last [] = last
next_time last (c ∷ cs) = c.time

-- at the time of each change that finds what passes a test, it is noted until when it does
abbrev pub AreNoted : (Option (ℕ × ℕ) → Bool) → List ℕ → List Change → Type 0
AreNoted test ends [] = Unit {0}
AreNoted test ends (c ∷ cs) = (test (pair_of c.found) ≡ true → c.time < length ends → next_time (length ends) cs ≤ slice_index_or ends c.time 0) × AreNoted test ends cs

-- later ends at each index
pub record AreLater (old new : List ℕ) : Type 0 where
  pub width : length new ≡ length old
  pub later : (t : ℕ) → slice_index_or old t 0 ≤ slice_index_or new t 0

-- a fact of each time that a new end is after, from the time on at which that end is noted
abbrev pub HoldsTill : (ℕ → Type 0) → List ℕ → List ℕ → Type 0
HoldsTill P old new = (s t : ℕ) → s ≤ t → slice_index_or old s 0 ≤ t → t < slice_index_or new s 0 → P t

-- the latest of the given number of ends, the first ones; 0 where none is later
pub record IsLatest (ends : List ℕ) (count latest : ℕ) : Type 0 where
  pub bounds_ends : (s : ℕ) → s < count → slice_index_or ends s 0 ≤ latest
  pub is_end : 0 < latest → (s : ℕ) × (s < count) × (slice_index_or ends s 0 ≡ latest)

-- the latest of all ends up to each time
abbrev pub IsReach : List ℕ → List ℕ → Type 0
IsReach ends reach = (t : ℕ) → t < length reach → IsLatest ends (t + 1) (slice_index_or reach t 0)

-- the times that this is beyond are those at which some of these keys finds what passes a test
abbrev pub IsReachOf : (Option (ℕ × ℕ) → Bool) → List (List Change) → List ℕ → List ℕ → Type 0
IsReachOf test rows keys reach = (t : ℕ) → t < length reach → finds_at test rows keys t ≡ nat_lt t (slice_index_or reach t 0)

-- the numbers below one
abbrev pub below : ℕ → List ℕ
below zero = []
below (suc n) = below n ++ n ∷ []

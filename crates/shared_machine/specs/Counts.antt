-- The book of counts and the tickets' counts, as views of one table.
use Rattle.std.specs.Prelude.{◌≡◌, ℕ, true, false, List, [], ◌∷◌, ◌++◌, Some, slice_get, slice_set}
use mathlib.Core.Option.{some}
use lib.ListN.{get_elem?}
use Rattle.atomic_table.specs.Seated.{TableId}
use Rattle.atomic_table.specs.Table.{Me, Step}
use Rattle.shared_machine.specs.declared.counts.view.View.{View}

-- the name of no table
abbrev pub no_table : TableId
no_table = record { words = 0; slots = 0; views_name = 0; atom = 0; block = 0; offset = 0; slot_names = [] }

-- a worker's number and its count
pub record Count : Type 0 where
  pub worker : ℕ
  pub count : ℕ

-- the book alone
abbrev pub keeper : List ℕ → View
keeper book = record { keeps = true; book = book; claims = false; worker = 0; count = 0 }

-- a ticket alone
abbrev pub claim : ℕ → ℕ → View
claim worker count = record { keeps = false; book = []; claims = true; worker = worker; count = count }

-- the book with a ticket
abbrev pub both : View → View → View
both v w = record { keeps = v.keeps; book = v.book; claims = w.claims; worker = w.worker; count = w.count }

-- neither the book nor a ticket
abbrev pub nobody : View
nobody = record { keeps = false; book = []; claims = false; worker = 0; count = 0 }

-- the book, without its ticket
abbrev pub without : View → View
without v = record { keeps = v.keeps; book = v.book; claims = false; worker = 0; count = 0 }

-- its ticket, without the book
abbrev pub ticket_of : View → View
ticket_of v = claim v.worker v.count

-- both with a new count
abbrev pub renew_view : View → ℕ → View
renew_view v next = record { keeps = v.keeps; book = slice_set v.book v.worker next; claims = v.claims; worker = v.worker; count = next }

-- one more worker
abbrev pub grow_view : View → View
grow_view v = keeper (v.book ++ 0 ∷ [])

-- what the rule says of the view of the seat `by`: one seat at most has the book, and each worker has one ticket at most, with the count that is in the book
abbrev pub Fits : ℕ → List ℕ → (ℕ → ℕ) → ℕ → View → Type 0
Fits seat book owner by v =
    (v.keeps ≡ true → (by ≡ seat) × (v.book ≡ book))
    × (v.claims ≡ true → (owner v.worker ≡ by) × (slice_get book v.worker ≡ Some v.count))

-- the rule, over the views of all seats
pub record Kept (views : List View) : Type 0 where
  pub seat : ℕ
  pub book : List ℕ
  pub owner : ℕ → ℕ
  pub each : (by : ℕ) (v : View) → get_elem? views by ≡ some v → Fits seat book owner by v

-- a step by which the book and its ticket have a new count: the old one was the same in both
abbrev pub Renews : ℕ → Step ℕ → Me ℕ View → ℕ → Me ℕ View → Type 0
Renews next st m r m' = (m' ≡ (renew_view m.0 next, m.1)) × (m.0.keeps ≡ true → m.0.claims ≡ true → slice_get m.0.book m.0.worker ≡ Some m.0.count)

-- a step that changes nothing, where the counts in the book and the ticket are the same
abbrev pub Compares : Step ℕ → Me ℕ View → ℕ → Me ℕ View → Type 0
Compares st m r m' = (m' ≡ m) × (m.0.keeps ≡ true → m.0.claims ≡ true → slice_get m.0.book m.0.worker ≡ Some m.0.count)

-- the count in a ticket's views, of which there is one
abbrev pub count_in : List View → ℕ
count_in [] = 0
count_in (v ∷ vs) = v.count

-- The events of a history that is kept as runs.
use Rattle.std.proofs.Common.{◌≡◌, ℕ, zero, suc, ◌+◌, ◌<◌, List, [], ◌∷◌, ◌++◌, length, get_or, take, refl, sym, ap, ◌∙◌, append-nil, append_assoc}
use Rattle.std.proofs.lemmas.List.{map-append, take_more}
use Rattle.std.specs.Prelude.{replicate}
use Rattle.cil_model.specs.declared.events.Event.{Event}
use Rattle.schedule_text.specs.Items.{events_of as events_in}
use Rattle.schedule_text.specs.declared.items.Item.{Item}
use Rattle.schedule_text.proofs.ReadingLemmas.{events_of-push}
use Rattle.shared_machine.specs.Histories.{events_of, plain}
use Rattle.shared_machine.specs.declared.history.Entry.{Entry}
use Rattle.shared_machine.specs.declared.history.Run.{Run}

-- the events of runs
abbrev listed : List Run → List Event
listed runs = events_of (plain runs)

plain-append : (xs ys : List Run) → plain (xs ++ ys) ≡ plain xs ++ plain ys
plain-append [] ys = refl
plain-append (x ∷ xs) ys = ap (λ (l : List Entry). replicate x.times x.entry ++ l) (plain-append xs ys) ∙ sym (append_assoc (replicate x.times x.entry) (plain xs) (plain ys))

listed-append : (xs ys : List Run) → listed (xs ++ ys) ≡ listed xs ++ listed ys
listed-append xs ys = ap events_of (plain-append xs ys) ∙ map-append (λ (e : Entry). e.event) (plain xs) (plain ys)

events_of_equal : (n : ℕ) (e : Entry) → events_of (replicate n e) ≡ replicate n e.event
events_of_equal zero e = refl
events_of_equal (suc n) e = ap (λ (l : List Event). e.event ∷ l) (events_of_equal n e)

listed_one : (r : Run) → listed (r ∷ []) ≡ replicate r.times r.entry.event
listed_one r = ap events_of (append-nil (replicate r.times r.entry)) ∙ events_of_equal r.times r.entry

-- the events of the runs so far, with those of one run more
listed_more : (runs : List Run) (i : ℕ) (d : Run) (so_far more : List Event) → i < length runs → so_far ≡ events_of (plain (take i runs))
    → more ≡ so_far ++ replicate (get_or runs i d).times (get_or runs i d).entry.event → more ≡ events_of (plain (take (i + 1) runs))
listed_more runs i d so_far more below is is' =
    let r : Run = get_or runs i d in
    is' ∙ ap (λ (l : List Event). l ++ replicate r.times r.entry.event) is ∙ ap (λ (l : List Event). listed (take i runs) ++ l) (sym (listed_one r))
    ∙ sym (listed-append (take i runs) (r ∷ [])) ∙ ap listed (sym (take_more runs i d below))

-- so are the items so far with one more
pub item_more : (runs : List Run) (i : ℕ) (d : Run) (items before after : List Item) → i < length runs → events_in items ≡ events_of (plain (take i runs)) → before ≡ items
    → after ≡ before ++ record { event = (get_or runs i d).entry.event; count = (get_or runs i d).times } ∷ [] → events_in after ≡ events_of (plain (take (i + 1) runs))
item_more runs i d items before after below is kept pushed =
    let item : Item = record { event = (get_or runs i d).entry.event; count = (get_or runs i d).times } in
    listed_more runs i d (events_in items) (events_in after) below is
    (ap events_in pushed ∙ events_of-push before item ∙ ap (λ (its : List Item). events_in its ++ replicate item.count item.event) kept)

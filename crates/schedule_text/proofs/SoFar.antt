-- The events of the items up to one, and some of its own.
use Rattle.std.proofs.Common.{◌≡◌, ◌+◌, ◌-◌, ◌<◌, ◌≤◌, ℕ, List, ◌∷◌, [], ◌++◌, length, get_or, take, drop, replicate, arith, sym, ◌∙◌, ap, suc, append_assoc}
use Rattle.std.proofs.lemmas.Grind.{flat_map-append}
use Rattle.std.proofs.lemmas.List.{append-nil, drop_more, replicate-append-replicate, replicate_more, take-append-drop, take_all, take_more}
use Rattle.cil_model.specs.declared.events.Event.{Event}
use Rattle.schedule_text.specs.Items.{events_of}
use Rattle.schedule_text.specs.declared.items.Item.{Item}

-- the events of the items before a position, and the given number more of one event
abbrev pub so_far : List Item → ℕ → Event → ℕ → List Event
so_far items i event times = events_of (take i items) ++ replicate times event

pub events_of-append : (items others : List Item) → events_of (items ++ others) ≡ events_of items ++ events_of others
events_of-append items others = flat_map-append (λ item. replicate item.count item.event) items others

-- none yet
pub so_far_none : (items : List Item) (i : ℕ) (event : Event) → so_far items i event 0 ≡ events_of (take i items)
so_far_none items i event = append-nil (events_of (take i items))

-- one more
pub so_far_more : (items : List Item) (i : ℕ) (event : Event) (n : ℕ) → so_far items i event n ++ event ∷ [] ≡ so_far items i event (n + 1)
so_far_more items i event n =
    append_assoc (events_of (take i items)) (replicate n event) (event ∷ []) ∙ ap (λ es. events_of (take i items) ++ es) (replicate_more n event)

module _ (items : List Item) (i : ℕ) (d : Item) (below : i < length items) where
  abbrev item : Item
  item = get_or items i d

  -- all of the item's
  pub so_far_all : so_far items i item.event item.count ≡ events_of (take (i + 1) items)
  so_far_all =
      ap (λ es. events_of (take i items) ++ es) (sym (append-nil (replicate item.count item.event)))
      ∙ sym (events_of-append (take i items) (item ∷ [])) ∙ ap events_of (sym (take_more items i d below))

  -- what follows them
  abbrev rest : ℕ → List Event
  rest n = replicate (item.count - suc n) item.event ++ events_of (drop (i + 1) items)

  own : (n : ℕ) → n < item.count → replicate item.count item.event ≡ replicate n item.event ++ item.event ∷ replicate (item.count - suc n) item.event
  own n few =
      let count : item.count ≡ n + suc (item.count - suc n) = omega (arith, few) in
      ap (λ m. replicate m item.event) count ∙ sym (replicate-append-replicate n (suc (item.count - suc n)) item.event)

  pub so_far_before : (n : ℕ) → n < item.count → events_of items ≡ so_far items i item.event n ++ item.event ∷ rest n
  so_far_before n few =
      ap events_of (sym (take-append-drop i items)) ∙ events_of-append (take i items) (drop i items)
      ∙ ap (λ is. events_of (take i items) ++ events_of is) (drop_more items i d below)
      ∙ ap (λ es. events_of (take i items) ++ (es ++ events_of (drop (i + 1) items))) (own n few)
      ∙ ap (λ es. events_of (take i items) ++ es) (append_assoc (replicate n item.event) (item.event ∷ replicate (item.count - suc n) item.event) (events_of (drop (i + 1) items)))
      ∙ sym (append_assoc (events_of (take i items)) (replicate n item.event) (item.event ∷ rest n))

-- all of all
pub so_far_whole : (items : List Item) (i : ℕ) → length items ≤ i → events_of (take i items) ≡ events_of items
so_far_whole items i past = ap events_of (take_all i items past)

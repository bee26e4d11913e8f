-- Runs of equal events, written one after another.
use Rattle.std.proofs.Common.{◌≡◌, ◌≢◌, ◌+◌, ◌<◌, ◌≤◌, ◌&&◌, ◌||◌, ℕ, Bool, true, false, true≢false, List, ◌∷◌, [], ◌++◌, length, map, get_or, take, drop, replicate, arith, refl, sym, ◌∙◌, ap, ap₂, subst, zero, suc, append_assoc, length-append, decimal, codes, ◌==◌, if◌then◌else◌}
use Rattle.std.specs.List.{flat_map, join_with_byte, list_all}
use Rattle.std.proofs.Math.ListN.{drop_of_length-le}
use Rattle.std.proofs.lemmas.Grind.{flat_map-append}
use Rattle.std.proofs.lemmas.List.{append-nil, drop_more, length-replicate, replicate-append-replicate, take-append-drop, take_more}
use Rattle.std.proofs.lemmas.List.Elements.{All-cons, All-head, All-nil}
use Rattle.std.proofs.lemmas.List.Folds.{list_all-append}
use borrow.Author.Tests.{eqb-true, eq-eqb}
use Rattle.cil_model.specs.declared.events.Event.{Event}
use Rattle.cil_model.specs.declared.events.Event.TheVariants.{Step, Ack, Gc}
use Rattle.schedule_text.specs.Items.{events_of, has_good_events, has_thread_number, item_text, name_of, same_event, separate_words}
use Rattle.schedule_text.specs.Writings.{AreRuns, IsTextOf}
use Rattle.schedule_text.specs.declared.items.Item.{Item}

-- the text of more items after a text
abbrev pub joined : List ℕ → List Item → List ℕ
joined [] items = join_with_byte 32 (map item_text items)
joined (byte ∷ bytes) items = (byte ∷ bytes) ++ flat_map (λ item. 32 ∷ item_text item) items

-- ---- texts

join_cons : (first : List ℕ) (items : List Item) → join_with_byte 32 (first ∷ map item_text items) ≡ first ++ flat_map (λ item. 32 ∷ item_text item) items
join_cons first [] = sym (append-nil first)
join_cons first (item ∷ items) = ap (λ bytes. first ++ (32 ∷ bytes)) (join_cons (item_text item) items)

name_is_some : (event : Event) → (byte : ℕ) × (bytes : List ℕ) × (name_of event ≡ byte ∷ bytes)
name_is_some (Step thread) = (115, decimal thread, refl)
name_is_some (Ack thread) = (97, decimal thread, refl)
name_is_some Gc = (103, [], refl)

pub item_text_is_some : (item : Item) → (byte : ℕ) × (bytes : List ℕ) × (item_text item ≡ byte ∷ bytes)
item_text_is_some item = either (item.count == 1) (name_is_some item.event)
  where
    either : (one : Bool) → ((byte : ℕ) × (bytes : List ℕ) × (name_of item.event ≡ byte ∷ bytes)) →
        (byte : ℕ) × (bytes : List ℕ) × ((if one then name_of item.event else name_of item.event ++ codes "*" ++ decimal item.count) ≡ byte ∷ bytes)
    either true some = some
    either false (byte, bytes, is) = (byte, bytes ++ codes "*" ++ decimal item.count, ap (λ text. text ++ codes "*" ++ decimal item.count) is)

joined_some : (text : List ℕ) (byte : ℕ) (bytes : List ℕ) (items : List Item) → text ≡ byte ∷ bytes → joined text items ≡ text ++ flat_map (λ item. 32 ∷ item_text item) items
joined_some text byte bytes items e = ap (λ t. joined t items) e ∙ ap (λ t. t ++ flat_map (λ item. 32 ∷ item_text item) items) (sym e)

-- an item more
joined_next : (text : List ℕ) (item : Item) (items : List Item) → joined (separate_words text ++ item_text item) items ≡ joined text (item ∷ items)
joined_next [] item items =
    let some = item_text_is_some item in
    joined_some (item_text item) some.0 some.1 items some.2 ∙ sym (join_cons (item_text item) items)
joined_next (byte ∷ bytes) item items =
    append_assoc ((byte ∷ bytes) ++ 32 ∷ []) (item_text item) (flat_map (λ i. 32 ∷ item_text i) items)
    ∙ append_assoc (byte ∷ bytes) (32 ∷ []) (item_text item ++ flat_map (λ i. 32 ∷ item_text i) items)

pub joined_none : (text : List ℕ) → joined text [] ≡ text
joined_none [] = refl
joined_none (byte ∷ bytes) = append-nil (byte ∷ bytes)

-- ---- runs

same_is_equal : (event other : Event) → same_event event other ≡ true → event ≡ other
same_is_equal (Step thread) (Step other) e = ap Step (eqb-true thread other e)
same_is_equal (Ack thread) (Ack other) e = ap Ack (eqb-true thread other e)
same_is_equal Gc Gc e = refl
same_is_equal _ _ e = cc

itself : (event : Event) → same_event event event ≡ true
itself (Step thread) = eq-eqb thread thread refl
itself (Ack thread) = eq-eqb thread thread refl
itself Gc = refl

some_of : (n : ℕ) (event : Event) → 0 < n → (events : List Event) × (replicate n event ≡ event ∷ events)
some_of zero event some = absurd (omega arith)
some_of (suc n) event some = (replicate n event, refl)

pub heads : {A : Type 0} {x y : A} {xs ys : List A} → x ∷ xs ≡ y ∷ ys → x ≡ y
heads e = cc

pub tails : {A : Type 0} {x y : A} {xs ys : List A} → x ∷ xs ≡ y ∷ ys → xs ≡ ys
tails e = cc

pub first_of_runs : (rest : List Event) (item : Item) (items : List Item) → AreRuns rest (item ∷ items) → (more : List Event) × (rest ≡ item.event ∷ more)
first_of_runs rest item items runs =
    let some = some_of item.count item.event (All-head (λ i. 0 < i.count) item items runs.filled) in
    (some.0 ++ events_of items, runs.together ∙ ap (λ es. es ++ events_of items) some.1)

-- a run before the runs of what is left
pub runs_next : (rest rest' : List Event) (item : Item) (items : List Item) → rest ≡ replicate item.count item.event ++ rest' → 0 < item.count →
    ((next : Event) (more : List Event) → rest' ≡ next ∷ more → item.event ≢ next) → AreRuns rest' items → AreRuns rest (item ∷ items)
runs_next rest rest' item items is some apart runs = record {
  together = is ∙ ap (λ es. replicate item.count item.event ++ es) runs.together;
  filled = All-cons (λ i. 0 < i.count) item items some runs.filled;
  apart = parts;
}
  where
    parts : (before after : List Item) (first second : Item) → item ∷ items ≡ before ++ first ∷ second ∷ after → first.event ≢ second.event
    parts [] after first second e =
        let next = first_of_runs rest' second after (subst (AreRuns rest') (tails e) runs) in
        subst (λ i. i.event ≢ second.event) (heads e) (apart second.event next.0 next.1)
    parts (other ∷ before) after first second e = runs.apart before after first second (tails e)

-- the runs of no events
pub no_runs : AreRuns [] []
no_runs = record { together = refl; filled = All-nil (λ i. 0 < i.count); apart = λ before after first second e. absurd (none before first (second ∷ after) e) }
  where
    none : (before : List Item) (first : Item) (after : List Item) → [] ≡ before ++ first ∷ after → ⊥
    none [] first after e = cc
    none (item ∷ before) first after e = cc

-- ---- runs that grow

-- what an item adds to a run of its event
pub longer_run : (run item : Item) → same_event run.event item.event ≡ true → replicate (run.count + item.count) run.event ≡ replicate run.count run.event ++ replicate item.count item.event
longer_run run item same =
    sym (replicate-append-replicate run.count item.count run.event) ∙ ap (λ e. replicate run.count run.event ++ replicate item.count e) (same_is_equal run.event item.event same)

module _ (items : List Item) (i : ℕ) (d : Item) (below : i < length items) (run : Item) where
  abbrev item : Item
  item = get_or items i d

  abbrev following : List Event
  following = events_of (drop (i + 1) items)

  -- the events from the item on
  pub from_item : events_of (drop i items) ≡ replicate item.count item.event ++ following
  from_item = ap events_of (drop_more items i d below)

  -- the number of these events
  pub from_item_count : length (events_of (drop i items)) ≡ item.count + length following
  from_item_count =
      ap length from_item ∙ length-append (replicate item.count item.event) following ∙ ap (λ n. n + length following) (length-replicate item.count item.event)

  module _ (most : ℕ) (few : run.count + length (events_of (drop i items)) ≤ most) where
    pub few_both : run.count + item.count ≤ most
    few_both = omega (arith, few, from_item_count)

    pub few_more : (more : Item) → replicate more.count more.event ≡ replicate run.count run.event ++ replicate item.count item.event → more.count + length following ≤ most
    few_more more is =
        let long : more.count ≡ run.count + item.count =
        sym (length-replicate more.count more.event) ∙ ap length is ∙ length-append (replicate run.count run.event) (replicate item.count item.event)
        ∙ ap₂ (λ m n. m + n) (length-replicate run.count run.event) (length-replicate item.count item.event) in
        omega (arith, long, few, from_item_count)

    pub few_next : item.count + length following ≤ most
    few_next = omega (arith, few, from_item_count)

  module _ (text : List ℕ) (so_far : (runs : List Item) → AreRuns (replicate run.count run.event ++ events_of (drop i items)) runs → IsTextOf (events_of items) (joined text runs)) where
    -- the item's events are of the run
    pub run_grows : (more : Item) → replicate more.count more.event ≡ replicate run.count run.event ++ replicate item.count item.event →
        (runs : List Item) → AreRuns (replicate more.count more.event ++ following) runs → IsTextOf (events_of items) (joined text runs)
    run_grows more is runs are =
        so_far runs (subst (λ es. AreRuns es runs) (ap (λ es. es ++ following) is ∙ append_assoc (replicate run.count run.event) (replicate item.count item.event) following ∙ ap (λ es. replicate run.count run.event ++ es) (sym from_item)) are)

    -- they are of the next one
    pub run_ends : (text' : List ℕ) → 0 < run.count → 0 < item.count → same_event run.event item.event ≡ false → text' ≡ separate_words text ++ item_text run →
        (runs : List Item) → AreRuns (replicate item.count item.event ++ following) runs → IsTextOf (events_of items) (joined text' runs)
    run_ends text' some some' differ written runs are =
        subst (IsTextOf (events_of items)) (sym (ap (λ t. joined t runs) written ∙ joined_next text run runs))
        (so_far (run ∷ runs) (runs_next (replicate run.count run.event ++ events_of (drop i items)) (replicate item.count item.event ++ following) run runs (ap (λ es. replicate run.count run.event ++ es) from_item) some apart are))
      where
        apart : (next : Event) (more : List Event) → replicate item.count item.event ++ following ≡ next ∷ more → run.event ≢ next
        apart next more e equal =
            let first = some_of item.count item.event some' in
            let here : item.event ≡ next = heads (sym (ap (λ es. es ++ following) first.1) ∙ e) in
            absurd (true≢false (sym (itself run.event) ∙ ap (same_event run.event) (equal ∙ sym here) ∙ differ))

-- no item is left
module _ (items : List Item) (i : ℕ) (past : length items ≤ i) (run : Item) (text : List ℕ)
    (so_far : (runs : List Item) → AreRuns (replicate run.count run.event ++ events_of (drop i items)) runs → IsTextOf (events_of items) (joined text runs)) where
  none_left : replicate run.count run.event ++ [] ≡ replicate run.count run.event ++ events_of (drop i items)
  none_left = ap (λ is. replicate run.count run.event ++ events_of is) (sym (drop_of_length-le items past))

  -- and the last run is written
  pub last_run : (text' : List ℕ) → 0 < run.count → text' ≡ separate_words text ++ item_text run → IsTextOf (events_of items) text'
  last_run text' some written =
      let last = runs_next (replicate run.count run.event ++ []) [] run [] refl some (λ next more e. absurd (nothing next more e)) no_runs in
      subst (IsTextOf (events_of items)) (sym (joined_next text run []) ∙ joined_none (separate_words text ++ item_text run) ∙ sym written)
      (so_far (run ∷ []) (subst (λ es. AreRuns es (run ∷ [])) none_left last))
    where
      nothing : (next : Event) (more : List Event) → [] ≡ next ∷ more → ⊥
      nothing next more e = cc

  -- or there is none
  pub no_run : run.count ≡ 0 → IsTextOf (events_of items) text
  no_run none =
      subst (IsTextOf (events_of items)) (joined_none text)
      (so_far [] (subst (λ es. AreRuns es []) (ap (λ n. replicate n run.event ++ []) (sym none) ∙ none_left) no_runs))

-- ---- all items

or_true : (b : Bool) → (b || true) ≡ true
or_true true = refl
or_true false = refl

not_none : (n : ℕ) (b : Bool) → (suc n == 0) ≡ b → (suc n == 0) ≡ false
not_none n true e = let same = eqb-true (suc n) 0 e in absurd (omega arith)
not_none n false e = e

-- n events of one kind
all_alike : (count : ℕ) (event : Event) → list_all has_thread_number (replicate count event) ≡ ((count == 0) || has_thread_number event)
all_alike zero event = refl
all_alike (suc count) event =
    once (has_thread_number event) (all_alike count event) ∙ ap (λ b. b || has_thread_number event) (sym (not_none count (suc count == 0) refl))
  where
    once : (good : Bool) → list_all has_thread_number (replicate count event) ≡ ((count == 0) || good) → (good && list_all has_thread_number (replicate count event)) ≡ good
    once true e = e ∙ or_true (count == 0)
    once false e = refl

pub all_have_numbers : (items : List Item) → list_all has_thread_number (events_of items) ≡ list_all has_good_events items
all_have_numbers [] = refl
all_have_numbers (item ∷ items) =
    list_all-append has_thread_number (replicate item.count item.event) (events_of items) ∙ ap₂ (λ a b. a && b) (all_alike item.count item.event) (all_have_numbers items)

-- the events so far with those of one item more
pub events_more : (items : List Item) (i : ℕ) (d : Item) → i < length items → length (events_of (take (i + 1) items)) ≡ length (events_of (take i items)) + (get_or items i d).count
events_more items i d below =
    let item : Item = get_or items i d in
    ap (λ is. length (events_of is)) (take_more items i d below) ∙ ap length (flat_map-append (λ it. replicate it.count it.event) (take i items) (item ∷ []))
    ∙ length-append (events_of (take i items)) (replicate item.count item.event ++ [])
    ∙ ap (λ es. length (events_of (take i items)) + length es) (append-nil (replicate item.count item.event))
    ∙ ap (λ n. length (events_of (take i items)) + n) (length-replicate item.count item.event)

-- all events are no fewer
pub events_at_least : (items : List Item) (i : ℕ) → length (events_of (take i items)) ≤ length (events_of items)
events_at_least items i =
    let split = ap (λ is. length (events_of is)) (sym (take-append-drop i items)) ∙ ap length (flat_map-append (λ it. replicate it.count it.event) (take i items) (drop i items))
    ∙ length-append (events_of (take i items)) (events_of (drop i items)) in
    omega (arith, split)

-- so they are too many
pub too_many : (items : List Item) (i : ℕ) (d : Item) (most room : ℕ) → i < length items → room + length (events_of (take i items)) ≡ most → ¬ ((get_or items i d).count ≤ room) → most < length (events_of items)
too_many items i d most room below so_far more = omega (arith, so_far, more, events_more items i d below, events_at_least items (i + 1))

-- A text has one result.
use Rattle.std.proofs.Common.{◌≡◌, ◌≢◌, ◌+◌, ◌<◌, ◌≤◌, ◌⊎◌, ◌&&◌, inl, inr, ℕ, Bool, true, false, true≢false, IsTrue, List, ◌∷◌, [], ◌++◌, length, replicate, arith, refl, sym, ◌∙◌, ap, ap₂, subst, zero, suc, length-append}
use Rattle.std.specs.List.{list_all}
use Rattle.std.proofs.lemmas.Grind.{flat_map-append}
use Rattle.std.proofs.lemmas.List.{length-replicate}
use Rattle.std.proofs.lemmas.List.Folds.{list_all-append}
use Rattle.cil_model.specs.declared.events.Event.{Event}
use Rattle.schedule_text.specs.Items.{AreItems, IsItem, events_of, has_thread_number}
use Rattle.schedule_text.specs.Readings.{AreRead, IsFaulty, IsFirstFault}
use Rattle.schedule_text.specs.declared.errors.ScheduleError.{ScheduleError}
use Rattle.schedule_text.specs.declared.errors.ScheduleError.TheVariants.{NoItem, NoThread, TooLong, OutOfMemory}
use Rattle.schedule_text.specs.declared.errors.TheConstants.{MOST_EVENTS}
use Rattle.schedule_text.specs.declared.items.Item.{Item}
use Rattle.schedule_text.proofs.ItemLemmas.{one_item}

-- ---- words are one list of items

pub same_items : (words : List (List ℕ)) (items others : List Item) → AreItems words items → AreItems words others → items ≡ others
same_items [] [] [] h k = refl
same_items [] (item ∷ items) others h k = absurd h
same_items (word ∷ words) [] others h k = absurd h
same_items (word ∷ words) (item ∷ items) (other ∷ others) h k = ap₂ (λ i is. i ∷ is) (one_item word item other h.0 k.0) (same_items words items others h.1 k.1)
same_items _ _ _ _ k = absurd k

pub same_events : (words : List (List ℕ)) (events others : List Event) → AreRead words events → AreRead words others → events ≡ others
same_events words events others (items, are, is, _, _) (items', are', is', _, _) = is ∙ ap events_of (same_items words items items' are are') ∙ sym is'

-- ---- a word among others that are read

-- the items before it, its own and those after it
items_at : (before : List (List ℕ)) (word : List ℕ) (after : List (List ℕ)) (items : List Item) → AreItems (before ++ word ∷ after) items →
    (front : List Item) × (item : Item) × (back : List Item) × (items ≡ front ++ item ∷ back) × AreItems before front × IsItem word item
items_at [] word after (item ∷ items) h = ([], item, items, refl, tt, h.0)
items_at (w ∷ before) word after (i ∷ items) h =
    let more = items_at before word after items h.1 in
    (i ∷ more.0, more.1, more.2, ap (λ is. i ∷ is) more.3, (h.0, more.4), more.5)
items_at _ _ _ _ h = absurd h

pub both : (a b : Bool) → (a && b) ≡ true → (a ≡ true) × (b ≡ true)
both true true e = (refl, refl)
both _ _ e = cc

pub first_passes : (test : Event → Bool) (n : ℕ) (event : Event) → 0 < n → list_all test (replicate n event) ≡ true → test event ≡ true
first_passes test zero event some e = absurd (omega arith)
first_passes test (suc n) event some e = (both (test event) (list_all test (replicate n event)) e).0

count_of_item : (word : List ℕ) (item : Item) → IsItem word item → 0 < item.count
count_of_item word item (inl (_, one)) = omega arith
count_of_item word item (inr (name, digits, _, _, _, some)) = some

-- such a word is good
good_at : (before : List (List ℕ)) (word : List ℕ) (after : List (List ℕ)) (all events : List Event) → AreRead (before ++ word ∷ after) all → AreRead before events →
    (item : Item) × IsItem word item × IsTrue (has_thread_number item.event) × (length events + item.count ≤ MOST_EVENTS)
good_at before word after all events (items, are, is, has_number, few) (front', are', is', _, _) =
    let parts = items_at before word after items are in
    let front = parts.0 in
    let item = parts.1 in
    let back = parts.2 in
    let whole : all ≡ events_of front ++ (replicate item.count item.event ++ events_of back) =
    is ∙ ap events_of parts.3 ∙ flat_map-append (λ i. replicate i.count i.event) front (item ∷ back) in
    let earlier : events ≡ events_of front = is' ∙ ap events_of (same_items before front' front are' parts.4) in
    let following : list_all has_thread_number (replicate item.count item.event ++ events_of back) ≡ true =
    (both (list_all has_thread_number (events_of front)) _ (sym (list_all-append has_thread_number (events_of front) (replicate item.count item.event ++ events_of back)) ∙ ap (list_all has_thread_number) (sym whole) ∙ has_number)).1 in
    let own : list_all has_thread_number (replicate item.count item.event) ≡ true =
    (both (list_all has_thread_number (replicate item.count item.event)) _ (sym (list_all-append has_thread_number (replicate item.count item.event) (events_of back)) ∙ following)).0 in (
      item,
      parts.5,
      first_passes has_thread_number item.count item.event (count_of_item word item parts.5) own,
      omega (arith, ap length whole, ap length earlier, length-append (events_of front) (replicate item.count item.event ++ events_of back), length-append (replicate item.count item.event) (events_of back), length-replicate item.count item.event),
    )

good_is_no_fault : (before : ℕ) (word : List ℕ) (item : Item) (error : ScheduleError) → IsItem word item → IsTrue (has_thread_number item.event) → before + item.count ≤ MOST_EVENTS → IsFaulty before word error → error ≡ OutOfMemory
good_is_no_fault before word item NoItem is has_number room fault = absurd (fault item is)
good_is_no_fault before word item NoThread is has_number room (other, other_is, none) =
    absurd (true≢false (sym has_number ∙ ap (λ i. has_thread_number i.event) (one_item word item other is other_is) ∙ none))
good_is_no_fault before word item TooLong is has_number room (other, other_is, (_, many)) =
    let count = ap (λ i. i.count) (one_item word item other is other_is) in
    absurd (omega (arith, many))
good_is_no_fault before word item OutOfMemory is has_number room fault = refl

pub no_fault_among : (before : List (List ℕ)) (word : List ℕ) (after : List (List ℕ)) (all events : List Event) (error : ScheduleError) →
    AreRead (before ++ word ∷ after) all → AreRead before events → IsFaulty (length events) word error → error ≡ OutOfMemory
no_fault_among before word after all events error read earlier fault =
    let good = good_at before word after all events read earlier in
    good_is_no_fault (length events) word good.0 error good.1 good.2 good.3 fault

-- ---- one fault

-- of two positions in a list one comes before the other, or they are one
positions : {A : Type 0} (xs ys : List A) (x y : A) (xs' ys' : List A) → xs ++ x ∷ xs' ≡ ys ++ y ∷ ys' →
    ((xs ≡ ys) × (x ≡ y)) ⊎ (((more : List A) × (ys ≡ xs ++ x ∷ more)) ⊎ ((more : List A) × (xs ≡ ys ++ y ∷ more)))
positions [] [] x y xs' ys' e = inl (refl, heads e)
  where
    heads : x ∷ xs' ≡ y ∷ ys' → x ≡ y
    heads h = cc
positions [] (b ∷ ys) x y xs' ys' e = inr (inl (ys, heads e))
  where
    heads : x ∷ xs' ≡ b ∷ (ys ++ y ∷ ys') → b ∷ ys ≡ x ∷ ys
    heads h = cc
positions (a ∷ xs) [] x y xs' ys' e = inr (inr (xs, heads e))
  where
    heads : a ∷ (xs ++ x ∷ xs') ≡ y ∷ ys' → a ∷ xs ≡ y ∷ xs
    heads h = cc
positions {A = A} (a ∷ xs) (b ∷ ys) x y xs' ys' e = under (heads e) (positions xs ys x y xs' ys' (tails e))
  where
    heads : a ∷ (xs ++ x ∷ xs') ≡ b ∷ (ys ++ y ∷ ys') → a ≡ b
    heads h = cc

    tails : a ∷ (xs ++ x ∷ xs') ≡ b ∷ (ys ++ y ∷ ys') → xs ++ x ∷ xs' ≡ ys ++ y ∷ ys'
    tails h = cc

    under : a ≡ b → ((xs ≡ ys) × (x ≡ y)) ⊎ (((more : List A) × (ys ≡ xs ++ x ∷ more)) ⊎ ((more : List A) × (xs ≡ ys ++ y ∷ more))) →
        ((a ∷ xs ≡ b ∷ ys) × (x ≡ y)) ⊎ (((more : List A) × (b ∷ ys ≡ (a ∷ xs) ++ x ∷ more)) ⊎ ((more : List A) × (a ∷ xs ≡ (b ∷ ys) ++ y ∷ more)))
    under same (inl (front, here)) = inl (ap₂ (λ c cs. c ∷ cs) same front, here)
    under same (inr (inl (more, is))) = inr (inl (more, ap₂ (λ c cs. c ∷ cs) (sym same) is))
    under same (inr (inr (more, is))) = inr (inr (more, ap₂ (λ c cs. c ∷ cs) same is))

same_fault : (before : ℕ) (word : List ℕ) (error other : ScheduleError) → IsFaulty before word error → IsFaulty before word other → error ≢ OutOfMemory → other ≢ OutOfMemory → error ≡ other
same_fault before word OutOfMemory other h k e f = absurd (e refl)
same_fault before word error OutOfMemory h k e f = absurd (f refl)
same_fault before word NoItem NoThread h (item, is, _) e f = absurd (h item is)
same_fault before word NoItem TooLong h (item, is, _) e f = absurd (h item is)
same_fault before word NoThread NoItem (item, is, _) k e f = absurd (k item is)
same_fault before word TooLong NoItem (item, is, _) k e f = absurd (k item is)
same_fault before word NoThread TooLong (item, is, none) (other, other_is, (has_number, _)) e f =
    absurd (true≢false (sym has_number ∙ ap (λ i. has_thread_number i.event) (one_item word other item other_is is) ∙ none))
same_fault before word TooLong NoThread (other, other_is, (has_number, _)) (item, is, none) e f =
    absurd (true≢false (sym has_number ∙ ap (λ i. has_thread_number i.event) (one_item word other item other_is is) ∙ none))
same_fault _ _ _ _ _ _ _ _ = refl

pub same_first_fault : (words : List (List ℕ)) (error other : ScheduleError) → IsFirstFault words error → IsFirstFault words other → error ≢ OutOfMemory → other ≢ OutOfMemory → error ≡ other
same_first_fault words error other (before, word, after, events, split, read, fault) (before', word', after', events', split', read', fault') e f =
    decide (positions before before' word word' after after' (sym split ∙ split'))
  where
    decide : ((before ≡ before') × (word ≡ word')) ⊎ (((more : List (List ℕ)) × (before' ≡ before ++ word ∷ more)) ⊎ ((more : List (List ℕ)) × (before ≡ before' ++ word' ∷ more))) → error ≡ other
    decide (inl (front, here)) =
        let events_are : events' ≡ events = same_events before events' events (subst (λ ws. AreRead ws events') (sym front) read') read in
        let moved : IsFaulty (length events) word other = subst (λ w. IsFaulty (length events) w other) (sym here) (subst (λ es. IsFaulty (length es) word' other) events_are fault') in
        same_fault (length events) word error other fault moved e f
    decide (inr (inl (more, is))) = absurd (e (no_fault_among before word more events' events error (subst (λ ws. AreRead ws events') is read') read fault))
    decide (inr (inr (more, is))) = absurd (f (no_fault_among before' word' more events events' other (subst (λ ws. AreRead ws events) is read) read' fault'))

pub no_fault_read : (words : List (List ℕ)) (events : List Event) (error : ScheduleError) → AreRead words events → IsFirstFault words error → error ≡ OutOfMemory
no_fault_read words events error read (before, word, after, earlier, split, earlier_read, fault) =
    no_fault_among before word after events earlier error (subst (λ ws. AreRead ws events) split read) earlier_read fault

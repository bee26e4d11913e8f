-- The text of a list is read as the list.
use Rattle.std.proofs.Common.{◌≡◌, ◌==◌, ◌^◌, ◌<◌, ◌≤◌, ◌⊎◌, inl, inr, ℕ, Bool, true, false, not, IsTrue, All, List, ◌∷◌, [], ◌++◌, length, map, get_or, replicate, decimal, codes, if◌then◌else◌, arith, rules, tests, refl, sym, ◌∙◌, ap, subst, zero, suc, append_assoc, length-append, lit<}
use Rattle.std.specs.Char.{is_ascii_digit}
use Rattle.std.specs.List.{filter, join_with_byte, list_all, slice_split}
use Rattle.std.proofs.lemmas.Bool.{ltb-true}
use Rattle.std.proofs.lemmas.Fmt.{decimal_digit, digits_decimal, digits_value-decimal, first_decimal}
use Rattle.std.proofs.lemmas.List.{length-replicate}
use Rattle.std.proofs.lemmas.List.Elements.{All-append, All-cons, All-head, All-nil, All-tail, All-weaker}
use Rattle.std.proofs.lemmas.List.Folds.{list_all-append}
use Rattle.std.proofs.lemmas.List.Splits.{slice_split_at, slice_split_none}
use Rattle.std.proofs.lemmas.List.Sums.{AllPass-from_list_all}
use borrow.Author.Tests.{eqb-true}
use Rattle.cil_model.specs.declared.events.Event.{Event}
use Rattle.cil_model.specs.declared.events.Event.TheVariants.{Step, Ack, Gc}
use Rattle.cil_model.specs.declared.limits.TheConstants.{MOST_THREADS}
use Rattle.schedule_text.specs.Items.{AreItems, IsItem, IsNumber, Names, events_of, is_number, has_thread_number, is_separator, item_text, name_of, words}
use Rattle.schedule_text.specs.Readings.{AreRead}
use Rattle.schedule_text.specs.Writings.{IsWritten}
use Rattle.schedule_text.specs.declared.errors.TheConstants.{MOST_EVENTS}
use Rattle.schedule_text.specs.declared.items.Item.{Item}
use Rattle.schedule_text.proofs.AnswerLemmas.{both, first_passes}
use Rattle.schedule_text.proofs.NumberLemmas.{numerals}
use Rattle.schedule_text.proofs.WritingLemmas.{item_text_is_some}

-- ---- a number that is written

unequal : (m n : ℕ) (b : Bool) → (m == n) ≡ b → n < m → (m == n) ≡ false
unequal m n true e less = let same = eqb-true m n e in absurd (omega arith)
unequal m n false e less = e

is_number_from : (digits : List ℕ) → list_all is_ascii_digit digits ≡ true → 48 < get_or digits 0 0 → is_number digits ≡ true
is_number_from [] all first = absurd (omega arith)
is_number_from (digit ∷ digits) all first = rw (unequal digit 48 (digit == 48) refl first) all

number_is : (n : ℕ) → n < 2 ^ 64 → (n ≡ 0) ⊎ (0 < n) → IsNumber (decimal n) n
number_is n small (inl none) = subst (λ m. IsNumber (decimal m) m) (sym none) (subst (λ digits. IsNumber digits 0) (sym (decimal_digit 0 (lit< tt))) (refl, refl))
number_is n small (inr some) = (is_number_from (decimal n) (digits_decimal numerals n small) (first_decimal n some small), sym (digits_value-decimal numerals n small))

zero_or_more : (n : ℕ) → (n ≡ 0) ⊎ (0 < n)
zero_or_more zero = inl refl
zero_or_more (suc n) = inr (omega arith)

decimal_is : (n : ℕ) → n < 2 ^ 64 → IsNumber (decimal n) n
decimal_is n small = number_is n small (zero_or_more n)

-- ---- an item that is written

abbrev IsGood : Item → Type 0
IsGood item = IsTrue (has_thread_number item.event) × (0 < item.count) × (item.count ≤ MOST_EVENTS)

small_thread : (thread : ℕ) → has_thread_number (Step thread) ≡ true → thread < 2 ^ 64
small_thread thread e = let h : thread < MOST_THREADS = ltb-true _ _ e in omega arith

name_is : (event : Event) → has_thread_number event ≡ true → Names (name_of event) event
name_is (Step thread) e = (decimal thread, refl, decimal_is thread (small_thread thread e))
name_is (Ack thread) e = (decimal thread, refl, decimal_is thread (small_thread thread e))
name_is Gc e = refl

item_is : (item : Item) → IsGood item → IsItem (item_text item) item
item_is item (has_number, some, few) = by_count (item.count == 1) refl
  where
    by_count : (one : Bool) → (item.count == 1) ≡ one → IsItem (if one then name_of item.event else name_of item.event ++ codes "*" ++ decimal item.count) item
    by_count true e = inl (name_is item.event has_number, eqb-true item.count 1 e)
    by_count false e = inr (name_of item.event, decimal item.count, append_assoc (name_of item.event) (codes "*") (decimal item.count), name_is item.event has_number, decimal_is item.count (omega arith), some)

-- ---- no separator is in it

abbrev IsWhole : List ℕ → Type 0
IsWhole bytes = All (λ byte. is_separator byte ≡ false) bytes

digit_is_no_separator : (byte : ℕ) → is_ascii_digit byte ≡ true → is_separator byte ≡ false
digit_is_no_separator byte e = search (rules, tests)

decimal_is_whole : (n : ℕ) → n < 2 ^ 64 → IsWhole (decimal n)
decimal_is_whole n small = All-weaker _ _ digit_is_no_separator (decimal n) (AllPass-from_list_all _ (decimal n) (digits_decimal numerals n small))

name_is_whole : (event : Event) → has_thread_number event ≡ true → IsWhole (name_of event)
name_is_whole (Step thread) e = All-cons (λ byte. is_separator byte ≡ false) 115 (decimal thread) refl (decimal_is_whole thread (small_thread thread e))
name_is_whole (Ack thread) e = All-cons (λ byte. is_separator byte ≡ false) 97 (decimal thread) refl (decimal_is_whole thread (small_thread thread e))
name_is_whole Gc e = All-cons (λ byte. is_separator byte ≡ false) 103 [] refl (All-nil (λ byte. is_separator byte ≡ false))

item_is_whole : (item : Item) → IsGood item → IsWhole (item_text item)
item_is_whole item (has_number, some, few) = by_count (item.count == 1)
  where
    name : IsWhole (name_of item.event)
    name = name_is_whole item.event has_number

    star : IsWhole (codes "*")
    star = All-cons (λ byte. is_separator byte ≡ false) 42 [] refl (All-nil (λ byte. is_separator byte ≡ false))

    by_count : (one : Bool) → IsWhole (if one then name_of item.event else name_of item.event ++ codes "*" ++ decimal item.count)
    by_count true = name
    by_count false = All-append (λ byte. is_separator byte ≡ false) (name_of item.event ++ codes "*") (decimal item.count)
        (All-append (λ byte. is_separator byte ≡ false) (name_of item.event) (codes "*") name star) (decimal_is_whole item.count (omega arith))

-- ---- the words of the text

kept : (item : Item) → not (length (item_text item) == 0) ≡ true
kept item =
    let some = item_text_is_some item in
    rw some.2 (ap not (unequal (length (some.0 ∷ some.1)) 0 _ refl (omega arith)))

kept_first : (item : Item) (parts : List (List ℕ)) → filter (λ word. not (length word == 0)) (item_text item ∷ parts) ≡ item_text item ∷ filter (λ word. not (length word == 0)) parts
kept_first item parts = rw (kept item) refl

words_are : (items : List Item) → All IsGood items → words (join_with_byte 32 (map item_text items)) ≡ map item_text items
words_are [] good = refl
words_are (item ∷ []) good =
    ap (filter (λ word. not (length word == 0))) (slice_split_none is_separator (item_text item) (item_is_whole item (All-head IsGood item [] good))) ∙ kept_first item []
words_are (item ∷ next ∷ items) good =
    ap (filter (λ word. not (length word == 0))) (slice_split_at is_separator (item_text item) 32 (join_with_byte 32 (map item_text (next ∷ items))) (item_is_whole item (All-head IsGood item (next ∷ items) good)) refl)
    ∙ kept_first item (slice_split is_separator (join_with_byte 32 (map item_text (next ∷ items))))
    ∙ ap (λ ws. item_text item ∷ ws) (words_are (next ∷ items) (All-tail IsGood item (next ∷ items) good))

texts_are : (items : List Item) → All IsGood items → AreItems (map item_text items) items
texts_are [] good = tt
texts_are (item ∷ items) good = (item_is item (All-head IsGood item items good), texts_are items (All-tail IsGood item items good))

goods : (items : List Item) → All (λ i. 0 < i.count) items → list_all has_thread_number (events_of items) ≡ true → length (events_of items) ≤ MOST_EVENTS → All IsGood items
goods [] filled has_number few = All-nil IsGood
goods (item ∷ items) filled has_number few =
    let some = All-head (λ i. 0 < i.count) item items filled in
    let parts = both (list_all has_thread_number (replicate item.count item.event)) (list_all has_thread_number (events_of items)) (sym (list_all-append has_thread_number (replicate item.count item.event) (events_of items)) ∙ has_number) in
    let long = length-append (replicate item.count item.event) (events_of items) in
    let own = length-replicate item.count item.event in
    All-cons IsGood item items (first_passes has_thread_number item.count item.event some parts.0, some, omega arith)
    (goods items (All-tail (λ i. 0 < i.count) item items filled) parts.1 (omega arith))

pub text_is_read : (events : List Event) (text : List ℕ) → IsWritten events text → AreRead (words text) events
text_is_read events text ((few, has_number), (items, runs, is)) =
    let good = goods items runs.filled (ap (list_all has_thread_number) (sym runs.together) ∙ has_number) (subst (λ es. length es ≤ MOST_EVENTS) runs.together few) in
    (items, subst (λ ws. AreItems ws items) (sym (ap words is ∙ words_are items good)) (texts_are items good), runs.together, has_number, few)

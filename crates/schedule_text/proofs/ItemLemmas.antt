-- A word is one item at most: the item's name ends where the first star of the word is.
use Rattle.std.proofs.Common.{◌≡◌, ◌==◌, ◌+◌, ◌<◌, ◌≤◌, ◌&&◌, inl, inr, ℕ, Bool, true, false, nat_lt, All, List, ◌∷◌, [], ◌++◌, length, take, drop, get_or, Option, Some, None, if◌then◌else◌, arith, rules, tests, refl, sym, ◌∙◌, ap, ap₂, subst, lit<, length-append}
use Rattle.std.specs.Char.{is_ascii_digit}
use Rattle.std.specs.List.{list_all, position, position_or_len, before_first, after_first}
use Rattle.std.specs.Str.Parse.{digits_value}
use Rattle.std.proofs.Math.Seq.{take-append_seam, drop-append-add, get_or-append_seam}
use Rattle.std.proofs.lemmas.List.{get_or_append_left}
use Rattle.std.proofs.lemmas.Bool.{ltb-true, lt-ltb}
use borrow.Author.Tests.{ltb-false, eqb-true}
use Rattle.std.proofs.lemmas.List.Elements.{All-weaker, All-cons, All-get_or, All-nil}
use Rattle.std.proofs.lemmas.List.Sums.{AllPass-from_list_all, position_or_len_is, split_at_first, passes_at_first}
use Rattle.cil_model.specs.declared.events.Event.{Event}
use Rattle.cil_model.specs.declared.events.Event.TheVariants.{Step, Ack, Gc}
use Rattle.schedule_text.specs.Items.{IsItem, IsNumber, Names, is_number, is_star}
use Rattle.schedule_text.specs.declared.items.Item.{Item}

-- ---- what a test lets through

pub let_through : {A : Type 0} (b : Bool) (x y : A) → Some x ≡ (if b then Some y else None) → (b ≡ true) × (x ≡ y)
let_through true x y e = (refl, cc)
let_through false x y e = cc

pub kept_back : {A : Type 0} (b : Bool) (y : A) → None ≡ (if b then Some y else None) → b ≡ false
kept_back true y e = cc
kept_back false y e = refl

-- ---- items

pub same_item : (item other : Item) → item.event ≡ other.event → item.count ≡ other.count → item ≡ other
same_item item other e n = ap₂ (λ event count. let item : Item = record { event = event; count = count } in item) e n

-- the test of a count
pub counts : (digits : List ℕ) (count : ℕ) → IsNumber digits count → 0 < count → (is_number digits && nat_lt 0 (digits_value 10 digits)) ≡ true
counts digits count (number, is) positive = rw number (lt-ltb 0 (digits_value 10 digits) (omega arith))

pub is_count : (digits : List ℕ) → (is_number digits && nat_lt 0 (digits_value 10 digits)) ≡ true → IsNumber digits (digits_value 10 digits) × (0 < digits_value 10 digits)
is_count digits e =
    let h = both (is_number digits) (nat_lt 0 (digits_value 10 digits)) e in
    ((h.0, refl), ltb-true _ _ h.1)
  where
    both : (a b : Bool) → (a && b) ≡ true → (a ≡ true) × (b ≡ true)
    both true true e = (refl, refl)
    both _ _ e = cc

-- ---- names have no star

pub digits_of_number : (digits : List ℕ) → is_number digits ≡ true → list_all is_ascii_digit digits ≡ true
digits_of_number [] e = cc
digits_of_number (digit ∷ []) e = single digit (digit == 48) refl e
  where
    single : (digit : ℕ) (zero : Bool) → (digit == 48) ≡ zero → (if zero then true else (is_ascii_digit digit && true)) ≡ true → (is_ascii_digit digit && true) ≡ true
    single digit true is e = rw (eqb-true digit 48 is) refl
    single digit false is e = e
digits_of_number (digit ∷ next ∷ digits) e = several (digit == 48) e
  where
    several : (zero : Bool) → (if zero then length (next ∷ digits) == 0 else list_all is_ascii_digit (digit ∷ next ∷ digits)) ≡ true → list_all is_ascii_digit (digit ∷ next ∷ digits) ≡ true
    several true e = let none : length (next ∷ digits) ≡ 0 = eqb-true _ _ e in absurd (omega arith)
    several false e = e

digit_is_no_star : (byte : ℕ) → is_ascii_digit byte ≡ true → is_star byte ≡ false
digit_is_no_star byte e = search (rules, tests)

abbrev HasNoStar : List ℕ → Type 0
HasNoStar bytes = All (λ byte. is_star byte ≡ false) bytes

digits_have_no_star : (digits : List ℕ) → is_number digits ≡ true → HasNoStar digits
digits_have_no_star digits e =
    All-weaker _ _ digit_is_no_star digits (AllPass-from_list_all _ digits (digits_of_number digits e))

pub name_has_no_star : (word : List ℕ) (event : Event) → Names word event → HasNoStar word
name_has_no_star word (Step thread) (digits, e, (number, _)) = rw e (All-cons (λ byte. is_star byte ≡ false) 115 digits refl (digits_have_no_star digits number))
name_has_no_star word (Ack thread) (digits, e, (number, _)) = rw e (All-cons (λ byte. is_star byte ≡ false) 97 digits refl (digits_have_no_star digits number))
name_has_no_star word Gc e = rw e (All-cons (λ byte. is_star byte ≡ false) 103 [] refl (All-nil (λ byte. is_star byte ≡ false)))

-- ---- where the first star is

first_star : (name digits : List ℕ) → HasNoStar name → position_or_len is_star (name ++ 42 ∷ digits) ≡ length name
first_star name digits none = position_or_len_is is_star (name ++ 42 ∷ digits) (length name) 0
    (omega (arith, length-append name (42 ∷ digits)))
    (λ k below. rw (get_or_append_left name (42 ∷ digits) 0 k below) (All-get_or (λ byte. is_star byte ≡ false) name k 0 below none))
    (λ below. rw (get_or-append_seam name 42 digits 0) refl)

no_star : (word : List ℕ) → HasNoStar word → position_or_len is_star word ≡ length word
no_star word none = position_or_len_is is_star word (length word) 0 (omega arith) (λ k below. All-get_or (λ byte. is_star byte ≡ false) word k 0 below none) (λ below. absurd (omega arith))

position_is_some : (word : List ℕ) (star : ℕ) → position is_star word ≡ Some star → (star ≡ position_or_len is_star word) × (position_or_len is_star word < length word)
position_is_some word star e =
    let h = let_through (nat_lt (position_or_len is_star word) (length word)) star (position_or_len is_star word) (sym e) in
    (h.1, ltb-true _ _ h.0)

position_is_none : (word : List ℕ) → position is_star word ≡ None → length word ≤ position_or_len is_star word
position_is_none word e =
    ltb-false _ _ (kept_back (nat_lt (position_or_len is_star word) (length word)) (position_or_len is_star word) (sym e))

pub at_star : (word : List ℕ) (star : ℕ) → position is_star word ≡ Some star → word ≡ take star word ++ 42 ∷ drop (star + 1) word
at_star word star e =
    let h = position_is_some word star e in
    let is : get_or word (position_or_len is_star word) 0 ≡ 42 = eqb-true _ _ (passes_at_first is_star word 0 h.1) in
    rw h.0 (subst (λ byte. word ≡ before_first is_star word ++ byte ∷ after_first is_star word) is (split_at_first is_star word 0 h.1))

-- ---- an item, by the first star of its word

pub item_at_star : (word : List ℕ) (star : ℕ) → position is_star word ≡ Some star → (item : Item) → IsItem word item →
    Names (take star word) item.event × IsNumber (drop (star + 1) word) item.count × (0 < item.count)
item_at_star word star e item (inl (names, one)) =
    let found = position_is_some word star e in
    let nowhere = no_star word (name_has_no_star word item.event names) in
    absurd (omega arith)
item_at_star word star e item (inr (name, digits, is, names, number, positive)) =
    let found = position_is_some word star e in
    let here : star ≡ length name = found.0 ∙ ap (position_or_len is_star) is ∙ first_star name digits (name_has_no_star name item.event names) in
    let front : take star word ≡ name = ap (λ n. take n word) here ∙ ap (take (length name)) is ∙ take-append_seam name (42 ∷ digits) in
    let back : drop (star + 1) word ≡ digits = ap (λ n. drop (n + 1) word) here ∙ ap (drop (length name + 1)) is ∙ drop-append-add name (42 ∷ digits) 1 in
    (rw front names, rw back number, positive)

pub item_without_star : (word : List ℕ) → position is_star word ≡ None → (item : Item) → IsItem word item →
    Names word item.event × (item.count ≡ 1)
item_without_star word e item (inl h) = h
item_without_star word e item (inr (name, digits, is, names, number, positive)) =
    let nowhere = position_is_none word e in
    let here : position_or_len is_star word ≡ length name = ap (position_or_len is_star) is ∙ first_star name digits (name_has_no_star name item.event names) in
    absurd (omega (arith, ap length is, length-append name (42 ∷ digits)))

-- ---- a word names one event, and is one item

letters : {a b : ℕ} {xs ys : List ℕ} → a ∷ xs ≡ b ∷ ys → a < b → ⊥
letters {a} {b} e less = let same : a ≡ b = cc in omega arith

pub one_event : (word : List ℕ) (event other : Event) → Names word event → Names word other → event ≡ other
one_event word (Step t) (Step u) (d, e, (_, n)) (d', e', (_, n')) = let same : d ≡ d' = cc in cc
one_event word (Ack t) (Ack u) (d, e, (_, n)) (d', e', (_, n')) = let same : d ≡ d' = cc in cc
one_event word Gc Gc h k = refl
one_event word (Step t) (Ack u) (d, e, (_, n)) (d', e', (_, n')) = absurd (letters (sym e' ∙ e) (lit< tt))
one_event word (Ack u) (Step t) (d, e, (_, n)) (d', e', (_, n')) = absurd (letters (sym e ∙ e') (lit< tt))
one_event word (Step t) Gc (d, e, (_, n)) k = absurd (letters (sym k ∙ e) (lit< tt))
one_event word Gc (Step t) k (d, e, (_, n)) = absurd (letters (sym k ∙ e) (lit< tt))
one_event word (Ack t) Gc (d, e, (_, n)) k = absurd (letters (sym e ∙ k) (lit< tt))
one_event word Gc (Ack t) k (d, e, (_, n)) = absurd (letters (sym e ∙ k) (lit< tt))

pub one_item : (word : List ℕ) (item other : Item) → IsItem word item → IsItem word other → item ≡ other
one_item word item other h k = by_star (position is_star word) refl
  where
    by_star : (at : Option ℕ) → position is_star word ≡ at → item ≡ other
    by_star None e =
        let a = item_without_star word e item h in
        let b = item_without_star word e other k in
        let event = one_event word item.event other.event a.0 b.0 in
        same_item item other event (a.1 ∙ sym b.1)
    by_star (Some star) e =
        let a = item_at_star word star e item h in
        let b = item_at_star word star e other k in
        let event = one_event (take star word) item.event other.event a.0 b.0 in
        same_item item other event (a.1.1 ∙ sym b.1.1)

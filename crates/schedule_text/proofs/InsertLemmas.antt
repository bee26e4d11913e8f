-- The first events of items, and the others.
use Rattle.std.proofs.Common.{◌≡◌, ◌+◌, ◌-◌, ◌<◌, min, ℕ, zero, suc, List, ◌∷◌, [], ◌++◌, length, get_or, take, drop, replicate, arith, inl, inr, refl, sym, ◌∙◌, ap, append_assoc, length-append}
use Rattle.std.proofs.lemmas.Bool.{cases_lt}
use Rattle.std.proofs.lemmas.List.{drop-replicate, length-replicate, take-replicate, take_all}
use Rattle.cil_model.specs.declared.events.Event.{Event}
use Rattle.schedule_text.specs.Items.{events_of}
use Rattle.schedule_text.specs.declared.items.Item.{Item}
use Rattle.schedule_text.proofs.SoFar.{so_far_all}

module _ {X : Type 0} where
  take_both : (n : ℕ) (xs ys : List X) → take n (xs ++ ys) ≡ take n xs ++ take (n - length xs) ys
  take_both zero [] ys = refl
  take_both (suc n) [] ys = let all : suc n ≡ suc n - 0 = omega arith in ap (λ m. take m ys) all
  take_both zero (x ∷ xs) ys = let none : zero ≡ zero - length (x ∷ xs) = omega arith in ap (λ m. take m ys) none
  take_both (suc n) (x ∷ xs) ys =
      let less : n - length xs ≡ suc n - length (x ∷ xs) = omega arith in
      ap (λ l. x ∷ l) (take_both n xs ys ∙ ap (λ m. take n xs ++ take m ys) less)

  drop_both : (n : ℕ) (xs ys : List X) → drop n (xs ++ ys) ≡ drop n xs ++ drop (n - length xs) ys
  drop_both zero [] ys = refl
  drop_both (suc n) [] ys = let all : suc n ≡ suc n - 0 = omega arith in ap (λ m. drop m ys) all
  drop_both zero (x ∷ xs) ys = let none : zero ≡ zero - length (x ∷ xs) = omega arith in ap (λ m. x ∷ xs ++ drop m ys) none
  drop_both (suc n) (x ∷ xs) ys =
      let less : n - length xs ≡ suc n - length (x ∷ xs) = omega arith in
      drop_both n xs ys ∙ ap (λ m. drop n xs ++ drop m ys) less

  take_copies : (n count : ℕ) (y : X) → take n (replicate count y) ≡ replicate (min count n) y
  take_copies n count y = elim (cases_lt count n) [
    | inl l ↦ take_all n (replicate count y) (omega (arith, l, length-replicate count y)) ∙ ap (λ m. replicate m y) (omega (arith, l))
    | inr le ↦ take-replicate n count y le ∙ ap (λ m. replicate m y) (omega (arith, le))
  ]

pub less_by_least : (count left : ℕ) → left - min count left ≡ left - count
less_by_least count left = omega arith

module _ (items : List Item) (i : ℕ) (d : Item) (below : i < length items) where
  abbrev item : Item
  item = get_or items i d

  abbrev before : List Event
  before = events_of (take i items)

  abbrev own : List Event
  own = replicate item.count item.event

  with_own : before ++ own ≡ events_of (take (i + 1) items)
  with_own = so_far_all items i d below

  pub less_left : (at left : ℕ) → left ≡ at - length before → left - item.count ≡ at - length (events_of (take (i + 1) items))
  less_left at left e =
      let long : length (events_of (take (i + 1) items)) ≡ length before + item.count = ap length (sym with_own) ∙ length-append before own ∙ ap (λ n. length before + n) (length-replicate item.count item.event) in
      omega (arith, e, long)

  pub first_more : (front all : List Event) (at left : ℕ) → left ≡ at - length before → all ≡ front ++ take at before →
      all ++ replicate (min item.count left) item.event ≡ front ++ take at (events_of (take (i + 1) items))
  first_more front all at left e is =
      ap (λ l. l ++ replicate (min item.count left) item.event) is
      ∙ append_assoc front (take at before) (replicate (min item.count left) item.event)
      ∙ ap (λ l. front ++ (take at before ++ l)) (sym (take_copies left item.count item.event) ∙ ap (λ n. take n own) e)
      ∙ ap (λ l. front ++ l) (sym (take_both at before own) ∙ ap (take at) with_own)

  pub rest_more : (front all : List Event) (at left : ℕ) → left ≡ at - length before → all ≡ front ++ drop at before →
      all ++ replicate (item.count - left) item.event ≡ front ++ drop at (events_of (take (i + 1) items))
  rest_more front all at left e is =
      ap (λ l. l ++ replicate (item.count - left) item.event) is
      ∙ append_assoc front (drop at before) (replicate (item.count - left) item.event)
      ∙ ap (λ l. front ++ (drop at before ++ l)) (sym (drop-replicate left item.count item.event) ∙ ap (λ n. drop n own) e)
      ∙ ap (λ l. front ++ l) (sym (drop_both at before own) ∙ ap (drop at) with_own)

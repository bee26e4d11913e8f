-- Indices in lists.
use Rattle.std.proofs.Common.{◌≡◌, ◌<◌, ◌+◌, ℕ, suc, Bool, true, false, List, [], ◌∷◌, ◌++◌, length, map, get_or, take, drop, cond, slice_get, Option, Some, None, refl, sym, ap, ◌∙◌, append_assoc}
use Rattle.std.specs.Prelude.{filter_map, find, flat_map}
use Rattle.std.specs.List.{cons_option}
use Rattle.std.proofs.lemmas.List.{take_more, drop_more, append-nil}
use Rattle.std.proofs.lemmas.Grind.{flat_map-append}
use Rattle.name_tables.proofs.NumberLaws.{none_is_some}
use Rattle.name_tables.proofs.Lists.{map-take_more, filter_map-take_more}

-- two lists with the same element at each index
pub same_elements : {X : Type 0} (xs ys : List X) → ((j : ℕ) → slice_get xs j ≡ slice_get ys j) → xs ≡ ys
same_elements [] [] h = refl
same_elements [] (y ∷ ys) h = absurd (none_is_some y (h 0))
same_elements (x ∷ xs) [] h = absurd (none_is_some x (sym (h 0)))
same_elements {X} (x ∷ xs) (y ∷ ys) h =
    let first : Some x ≡ Some y = h 0 in
    let e : x ≡ y = cc in
    let rest : xs ≡ ys = same_elements xs ys (λ j. h (suc j)) in
    ap (λ z. z ∷ xs) e ∙ ap (λ zs. y ∷ zs) rest

-- a loop that filters, where nothing or one more is pushed
pub filter_skips : {X Y : Type 0} (h : X → Option Y) (xs : List X) (i : ℕ) (x : X) (ys : List Y) → i < length xs → x ≡ get_or xs i x → ys ≡ filter_map h (take i xs) → h x ≡ None → ys ≡ filter_map h (take (i + 1) xs)
filter_skips h xs i x ys l e before none =
    before ∙ sym (filter_map-take_more h xs i x l e ∙ ap (λ o. filter_map h (take i xs) ++ cons_option o []) none ∙ append-nil (filter_map h (take i xs)))

pub filter_takes : {X Y : Type 0} (h : X → Option Y) (xs : List X) (i : ℕ) (x : X) (ys zs : List Y) (y : Y) → i < length xs → x ≡ get_or xs i x → ys ≡ filter_map h (take i xs) → h x ≡ Some y → zs ≡ ys ++ y ∷ [] → zs ≡ filter_map h (take (i + 1) xs)
filter_takes h xs i x ys zs y l e before some after =
    after ∙ ap (λ vs. vs ++ y ∷ []) before ∙ sym (filter_map-take_more h xs i x l e ∙ ap (λ o. filter_map h (take i xs) ++ cons_option o []) some)

-- a loop that pushes one item for each
pub push_takes : {X Z : Type 0} (f : X → Z) (xs : List X) (i : ℕ) (x : X) (ys zs : List Z) (y : Z) → i < length xs → x ≡ get_or xs i x → ys ≡ map f (take i xs) → y ≡ f x → zs ≡ ys ++ y ∷ [] → zs ≡ map f (take (i + 1) xs)
push_takes f xs i x ys zs y l e before answered after =
    after ∙ ap (λ vs. vs ++ y ∷ []) before ∙ ap (λ z. map f (take i xs) ++ z ∷ []) answered ∙ sym (map-take_more f xs i x l e)

-- a loop that looks for an item: it is found, or sought further on
pub finds_here : {X : Type 0} (sought : X → Bool) (xs : List X) (i : ℕ) (d : X) → i < length xs → sought (get_or xs i d) ≡ true → find sought (drop i xs) ≡ Some (get_or xs i d)
finds_here sought xs i d l is = ap (find sought) (drop_more xs i d l) ∙ ap (λ b. cond b (Some (get_or xs i d)) (find sought (drop (i + 1) xs))) is

pub finds_after : {X : Type 0} (sought : X → Bool) (xs : List X) (i : ℕ) (d : X) → i < length xs → sought (get_or xs i d) ≡ false → find sought (drop (i + 1) xs) ≡ find sought (drop i xs)
finds_after sought xs i d l is = sym (ap (find sought) (drop_more xs i d l) ∙ ap (λ b. cond b (Some (get_or xs i d)) (find sought (drop (i + 1) xs))) is)

-- a loop that pushes a list for each item
pub flat_takes : {X Y : Type 0} (f : X → List Y) (xs : List X) (i : ℕ) (d : X) (ys zs : List Y) → i < length xs → ys ≡ flat_map f (take i xs) → zs ≡ ys ++ f (get_or xs i d) → zs ≡ flat_map f (take (i + 1) xs)
flat_takes f xs i d ys zs l before after =
    after ∙ ap (λ vs. vs ++ f (get_or xs i d)) before ∙ ap (λ vs. flat_map f (take i xs) ++ vs) (sym (append-nil (f (get_or xs i d)))) ∙
    sym (flat_map-append f (take i xs) (get_or xs i d ∷ [])) ∙ ap (flat_map f) (sym (take_more xs i d l))

-- the same, after a list that is before it
pub flat_takes_after : {X Y : Type 0} (f : X → List Y) (xs : List X) (i : ℕ) (d : X) (first ys zs : List Y) → i < length xs → ys ≡ first ++ flat_map f (take i xs) → zs ≡ ys ++ f (get_or xs i d) → zs ≡ first ++ flat_map f (take (i + 1) xs)
flat_takes_after f xs i d first ys zs l before after =
    after ∙ ap (λ vs. vs ++ f (get_or xs i d)) before ∙ append_assoc first (flat_map f (take i xs)) (f (get_or xs i d)) ∙
    ap (λ vs. first ++ vs) (flat_takes f xs i d (flat_map f (take i xs)) (flat_map f (take i xs) ++ f (get_or xs i d)) l refl refl)

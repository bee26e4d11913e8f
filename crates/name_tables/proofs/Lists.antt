-- Lists as a loop iterates over them.
use Rattle.std.proofs.Common.{◌≡◌, ◌<◌, ◌≤◌, ◌+◌, ℕ, suc, Bool, true, false, ◌&&◌, cond, List, [], ◌∷◌, ◌++◌, length, take, drop, get_or, map, flat_map, option_map, slice_get, Option, Some, None, refl, sym, ap, ◌∙◌, arith}
use Rattle.std.proofs.Math.Seq.{take_all, drop-cons, take-append_seam, drop-append_seam}
use Rattle.std.specs.List.{filter, filter_map, list_all}
use Rattle.std.proofs.lemmas.Grind.{flat_map-append}
use Rattle.std.proofs.lemmas.List.{take_more, map-append, append-nil, length-append, length-map, get_or-map}
use Rattle.std.proofs.lemmas.Option.{none-some, same_Some, slice_get_within, get_or_from_slice_get}
use Rattle.std.proofs.lemmas.List.Elements.{filter-append, filter_map-append}

-- one more item
pub take_one_more : {X : Type 0} (xs : List X) (i : ℕ) (x : X) → i < length xs → x ≡ get_or xs i x → take (i + 1) xs ≡ take i xs ++ x ∷ []
take_one_more xs i x l e = take_more xs i x l ∙ ap (λ y. take i xs ++ y ∷ []) (sym e)

pub filter_map-take_more : {X Y : Type 0} (h : X → Option Y) (xs : List X) (i : ℕ) (x : X) → i < length xs → x ≡ get_or xs i x → filter_map h (take (i + 1) xs) ≡ filter_map h (take i xs) ++ filter_map h (x ∷ [])
filter_map-take_more h xs i x l e =
    ap (filter_map h) (take_more xs i x l) ∙ filter_map-append h (take i xs) (get_or xs i x ∷ []) ∙ ap (λ y. filter_map h (take i xs) ++ filter_map h (y ∷ [])) (sym e)

pub map-take_more : {X Y : Type 0} (f : X → Y) (xs : List X) (i : ℕ) (x : X) → i < length xs → x ≡ get_or xs i x → map f (take (i + 1) xs) ≡ map f (take i xs) ++ f x ∷ []
map-take_more f xs i x l e = ap (map f) (take_more xs i x l) ∙ map-append f (take i xs) (get_or xs i x ∷ []) ∙ ap (λ y. map f (take i xs) ++ f y ∷ []) (sym e)

-- what one more item adds to a list of lists, one after the other
pub flat_map-take_more : {X Y : Type 0} (f : X → List Y) (xs : List X) (i : ℕ) (x : X) → i < length xs → x ≡ get_or xs i x → flat_map f (take (i + 1) xs) ≡ flat_map f (take i xs) ++ f x
flat_map-take_more f xs i x l e = ap (flat_map f) (take_one_more xs i x l e) ∙ flat_map-append f (take i xs) (x ∷ []) ∙ ap (λ ys. flat_map f (take i xs) ++ ys) (append-nil (f x))

-- the lists that are left, one after the other, begin with that at its index
pub flat_map-left : {X Y : Type 0} (f : X → List Y) (xs : List X) (i : ℕ) (x : X) → i < length xs → x ≡ get_or xs i x → flat_map f (drop i xs) ≡ f x ++ flat_map f (drop (i + 1) xs)
flat_map-left f xs i x l e =
    let next : suc i ≡ i + 1 = omega arith in
    ap (flat_map f) (drop-cons xs i x l) ∙ ap (λ y. f y ++ flat_map f (drop (suc i) xs)) (sym e) ∙ ap (λ n. f x ++ flat_map f (drop n xs)) next

-- of what all lists that are left represent, that of the list at its index, and that of the others
module _ {X Y Z : Type 0} (f : X → List Y) (view : Y → Z) (xs : List X) (i : ℕ) (x : X) (rest : List Z) (l : i < length xs) (e : x ≡ get_or xs i x) (h : rest ≡ map view (flat_map f (drop i xs))) where
  abbrev pub own : List Z
  own = map view (f x)

  abbrev pub others : List Z
  others = map view (flat_map f (drop (i + 1) xs))

  parts : rest ≡ own ++ others
  parts = h ∙ ap (map view) (flat_map-left f xs i x l e) ∙ map-append view (f x) (flat_map f (drop (i + 1) xs))

  pub own_within : length (f x) ≤ length rest
  own_within = omega (arith, ap length parts, length-append own others, length-map (f x) view)

  pub own_first : take (length (f x)) rest ≡ own
  own_first = ap (λ n. take n rest) (sym (length-map (f x) view)) ∙ ap (take (length own)) parts ∙ take-append_seam own others

  pub others_after : drop (length (f x)) rest ≡ others
  others_after = ap (λ n. drop n rest) (sym (length-map (f x) view)) ∙ ap (drop (length own)) parts ∙ drop-append_seam own others

-- an item that fails decides a test of all that are left
pub all_fail : {X : Type 0} (test : X → Bool) (xs : List X) (i : ℕ) (d : X) → i < length xs → test (get_or xs i d) ≡ false → list_all test (drop i xs) ≡ false
all_fail test xs i d l h = ap (list_all test) (drop-cons xs i d l) ∙ ap (λ b. b && list_all test (drop (suc i) xs)) h

-- one that passes changes no test of what is left
pub all_after : {X : Type 0} (test : X → Bool) (xs : List X) (i : ℕ) (d : X) → i < length xs → test (get_or xs i d) ≡ true → list_all test (drop (i + 1) xs) ≡ list_all test (drop i xs)
all_after test xs i d l h =
    let next : i + 1 ≡ suc i = omega arith in
    ap (λ n. list_all test (drop n xs)) next ∙ sym (ap (list_all test) (drop-cons xs i d l) ∙ ap (λ b. b && list_all test (drop (suc i) xs)) h)

-- a prefix of the full length is the whole list
pub at_end : {X Y : Type 0} (f : List X → Y) (xs : List X) (i : ℕ) {y : Y} → length xs ≤ i → y ≡ f (take i xs) → y ≡ f xs
at_end f xs i past h = h ∙ ap f (take_all i xs past)

pub map_of_map : {X Y Z : Type 0} (f : X → Y) (g : Y → Z) (xs : List X) → map g (map f xs) ≡ map (λ x. g (f x)) xs
map_of_map f g [] = refl
map_of_map f g (x ∷ xs) = ap (λ ys. g (f x) ∷ ys) (map_of_map f g xs)

pub option_map_of_map : {X Y Z : Type 0} (f : X → Y) (g : Y → Z) (o : Option X) → option_map g (option_map f o) ≡ option_map (λ x. g (f x)) o
option_map_of_map f g None = refl
option_map_of_map f g (Some x) = refl

-- where two maps make the same list, both lists have the same length
pub same_count : {X Y Z : Type 0} (f : X → Z) (g : Y → Z) (xs : List X) (ys : List Y) → map f xs ≡ map g ys → length xs ≡ length ys
same_count f g xs ys e = sym (length-map xs f) ∙ ap length e ∙ length-map ys g

-- where two maps make the same list, what they make of the items at one index
pub alike_at : {X Y Z : Type 0} (f : X → Z) (g : Y → Z) (xs : List X) (ys : List Y) (i : ℕ) (x : X) (y : Y) → map f xs ≡ map g ys → i < length ys → x ≡ get_or xs i x → y ≡ get_or ys i y → f x ≡ g y
alike_at f g xs ys i x y e l h k =
    let inside : i < length xs = omega (arith, l, length-map xs f, length-map ys g, ap length e) in
    ap f h ∙ sym (get_or-map f xs i x (f x) inside) ∙ ap (λ zs. get_or zs i (f x)) e ∙ get_or-map g ys i y (f x) l ∙ ap g (sym k)

-- what the item at an index represents
pub row_of : {X Y : Type 0} (f : X → Y) (xs : List X) (i : ℕ) (x : X) (d : Y) → i < length xs → x ≡ get_or xs i x → get_or (map f xs) i d ≡ f x
row_of f xs i x d l e = get_or-map f xs i x d l ∙ ap f (sym e)

-- one more row, made of one more item
pub one_more_row : {R Y Z : Type 0} (view : R → Z) (f : Y → Z) (rows more : List R) (ys : List Y) (i : ℕ) (r : R) (y : Y) → i < length ys → y ≡ get_or ys i y → map view rows ≡ map f (take i ys) → more ≡ rows ++ r ∷ [] → view r ≡ f y → map view more ≡ map f (take (i + 1) ys)
one_more_row view f rows more ys i r y l k e m h =
    ap (map view) m ∙ map-append view rows (r ∷ []) ∙ ap (λ zs. zs ++ view r ∷ []) e ∙ ap (λ z. map f (take i ys) ++ z ∷ []) h ∙ sym (map-take_more f ys i y l k)

-- one more item, made of one more
pub one_more_item : {X Y : Type 0} (f : X → Y) (ys more : List Y) (xs : List X) (i : ℕ) (y : Y) (x : X) → i < length xs → x ≡ get_or xs i x → ys ≡ map f (take i xs) → more ≡ ys ++ y ∷ [] → y ≡ f x → more ≡ map f (take (i + 1) xs)
one_more_item f ys more xs i y x l k e m h = m ∙ ap (λ zs. zs ++ y ∷ []) e ∙ ap (λ z. map f (take i xs) ++ z ∷ []) h ∙ sym (map-take_more f xs i x l k)

-- what one more item adds to those that pass
pub map-filter-take_more : {X Y : Type 0} (f : X → Y) (test : X → Bool) (xs : List X) (i : ℕ) (passes : Bool) (y d : Y) → option_map test (slice_get xs i) ≡ Some passes → get_or (map f xs) i d ≡ y →
    map f (filter test (take (i + 1) xs)) ≡ map f (filter test (take i xs)) ++ cond passes (y ∷ []) []
map-filter-take_more {X} f test xs i passes y d e h = by_item (slice_get xs i) refl e
  where
    one : (x : X) → map f (filter test (x ∷ [])) ≡ cond (test x) (f x ∷ []) []
    one x = elim (test x) as (λ b. map f (cond b (x ∷ []) []) ≡ cond b (f x ∷ []) []) [ true ↦ refl | false ↦ refl ]

    by_item : (o : Option X) → slice_get xs i ≡ o → option_map test o ≡ Some passes → map f (filter test (take (i + 1) xs)) ≡ map f (filter test (take i xs)) ++ cond passes (y ∷ []) []
    by_item None k p = absurd (none-some passes p)
    by_item (Some x) k p =
        let inside : i < length xs = slice_get_within xs i x k in
        let here : get_or xs i x ≡ x = get_or_from_slice_get xs i x x k in
        let made : f x ≡ y = ap f (sym here) ∙ sym (get_or-map f xs i x d inside) ∙ h in
        ap (λ ys. map f (filter test ys)) (take_one_more xs i x inside (sym here)) ∙ ap (map f) (filter-append test (take i xs) (x ∷ [])) ∙ map-append f (filter test (take i xs)) (filter test (x ∷ [])) ∙
        ap (λ ys. map f (filter test (take i xs)) ++ ys) (one x ∙ ap (λ b. cond b (f x ∷ []) []) (same_Some (test x) passes p) ∙ ap (λ z. cond passes (z ∷ []) []) made)

-- The results of a rule on the items of a list, as far as a loop over them has got.
use Rattle.std.proofs.Common.{◌≡◌, ◌<◌, ◌+◌, ℕ, zero, suc, List, [], ◌∷◌, ◌++◌, length, take, get_or, map, option_map, option_and_then, Option, Some, None, refl, sym, ap, ◌∙◌, arith}
use Rattle.std.proofs.Math.Seq.{take-length}
use Rattle.name_tables.proofs.Lists.{map-take_more, map_of_map}
use Rattle.resolved_code.specs.Rules.{all_some}

all_some_end : {Y : Type 0} (os : List (Option Y)) (ys : List Y) (y : Y) → all_some os ≡ Some ys → all_some (os ++ Some y ∷ []) ≡ Some (ys ++ y ∷ [])
all_some_end [] ys y h = let e : [] ≡ ys = cc in ap (λ zs. Some (zs ++ y ∷ [])) e
all_some_end {Y} (o ∷ os) ys y h = by_first (λ zs e. all_some_end os zs y e) o (all_some os) refl h
  where
    by_first : ((zs : List Y) → all_some os ≡ Some zs → all_some (os ++ Some y ∷ []) ≡ Some (zs ++ y ∷ [])) → (p : Option Y) (q : Option (List Y)) → all_some os ≡ q → option_and_then (λ x. option_map (λ xs. x ∷ xs) q) p ≡ Some ys →
        option_and_then (λ x. option_map (λ xs. x ∷ xs) (all_some (os ++ Some y ∷ []))) p ≡ Some (ys ++ y ∷ [])
    by_first further (Some x) (Some zs) e k = let f : x ∷ zs ≡ ys = cc in ap (option_map (λ xs. x ∷ xs)) (further zs e) ∙ ap (λ ws. Some (ws ++ y ∷ [])) f
    by_first further _ _ e k = absurd (cc k)

-- one more item
pub all_some_more : {X Y : Type 0} (rule : X → Option Y) (xs : List X) (i : ℕ) (x : X) (ys : List Y) (y : Y) → i < length xs → x ≡ get_or xs i x →
    all_some (map rule (take i xs)) ≡ Some ys → rule x ≡ Some y → all_some (map rule (take (i + 1) xs)) ≡ Some (ys ++ y ∷ [])
all_some_more rule xs i x ys y l e h k =
    ap all_some (map-take_more rule xs i x l e ∙ ap (λ o. map rule (take i xs) ++ o ∷ []) k) ∙ all_some_end (map rule (take i xs)) ys y h

-- an item that finds nothing
pub all_some_absent : {X Y : Type 0} (rule : X → Option Y) (xs : List X) (i : ℕ) (x : X) → i < length xs → x ≡ get_or xs i x → rule x ≡ None → all_some (map rule xs) ≡ None
all_some_absent rule [] i x l e h = absurd (omega (arith, l))
all_some_absent rule (z ∷ zs) zero x l e h = ap (option_and_then (λ y. option_map (λ ys. y ∷ ys) (all_some (map rule zs)))) (sym (ap rule e) ∙ h)
all_some_absent {X} {Y} rule (z ∷ zs) (suc i) x l e h = by_first (rule z) (all_some_absent rule zs i x (omega (arith, l)) e h)
  where
    by_first : (o : Option Y) → all_some (map rule zs) ≡ None → option_and_then (λ y. option_map (λ ys. y ∷ ys) (all_some (map rule zs))) o ≡ None
    by_first None k = refl
    by_first (Some y) k = ap (option_map (λ ys. y ∷ ys)) k

-- at the end of the loop all items are found
pub all_some_whole : {X Y : Type 0} (rule : X → Option Y) (xs : List X) (i : ℕ) (ys zs : List Y) → i ≡ length xs → all_some (map rule (take i xs)) ≡ Some ys → zs ≡ ys → all_some (map rule xs) ≡ Some zs
all_some_whole rule xs i ys zs e h k = sym (ap (λ ws. all_some (map rule ws)) (take-length xs)) ∙ sym (ap (λ n. all_some (map rule (take n xs))) e) ∙ h ∙ ap Some (sym k)

-- items that are seen through a view
pub all_some_seen : {Z X Y : Type 0} (view : Z → X) (rule : X → Option Y) (ws zs : List Z) → ws ≡ zs → all_some (map (λ z. rule (view z)) ws) ≡ all_some (map rule (map view zs))
all_some_seen view rule ws zs e = ap all_some (ap (map (λ z. rule (view z))) e ∙ sym (map_of_map view rule zs))

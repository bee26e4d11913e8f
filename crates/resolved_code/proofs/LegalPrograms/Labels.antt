-- The index of a label among all labels leads to the line that it is before.
use Rattle.std.proofs.Common.{◌≡◌, ℕ, suc, ◌+◌, Bool, true, false, cond, ◌||◌, List, [], ◌∷◌, ◌++◌, map, option_map, option_and_then, Option, Some, None, slice_get, refl, sym, ap, ◌∙◌, ◌<◌, length, take, get_or, arith, append_assoc, length-take-le}
use Rattle.std.specs.Prelude.{flat_map}
use Rattle.std.proofs.lemmas.List.{take_more, append-nil}
use Rattle.std.specs.List.{position_from, list_any}
use Rattle.cil_model.specs.declared.trees.Line.{Line}
use Rattle.cil_model.specs.Same.{same_text}
use Rattle.cil_model.specs.Bodies.{pc_of}
use Rattle.name_tables.proofs.NumberLaws.{position_from-suc}
use Rattle.resolved_code.specs.LabelIndices.{label_indices}

module _ {K X : Type 0} (test : K → Bool) where
  -- the item beside the first key that passes
  abbrev beside : List K → List X → Option X
  beside ks xs = option_and_then (slice_get xs) (position_from test 0 ks)

  moved : (x : X) (xs : List X) (o : Option ℕ) → option_and_then (slice_get (x ∷ xs)) (option_map suc o) ≡ option_and_then (slice_get xs) o
  moved x xs None = refl
  moved x xs (Some p) = refl

  beside_first : (k : K) (ks : List K) (x : X) (xs : List X) → beside (k ∷ ks) (x ∷ xs) ≡ cond (test k) (Some x) (beside ks xs)
  beside_first k ks x xs =
      elim (test k) as (λ b. option_and_then (slice_get (x ∷ xs)) (cond b (Some 0) (position_from test 1 ks)) ≡ cond b (Some x) (beside ks xs))
      [ true ↦ refl | false ↦ ap (option_and_then (slice_get (x ∷ xs))) (position_from-suc test 0 ks) ∙ moved x xs (position_from test 0 ks) ]

  -- keys with the same item beside each
  beside_many : (many : List K) (x : X) (ks : List K) (xs : List X) → beside (many ++ ks) (map (λ k. x) many ++ xs) ≡ cond (list_any test many) (Some x) (beside ks xs)
  beside_many [] x ks xs = refl
  beside_many (k ∷ many) x ks xs =
      beside_first k (many ++ ks) x (map (λ _. x) many ++ xs) ∙
      (elim (test k) as (λ b. cond b (Some x) (beside (many ++ ks) (map (λ _. x) many ++ xs)) ≡ cond (b || list_any test many) (Some x) (beside ks xs))
      [ true ↦ refl | false ↦ beside_many many x ks xs ])

abbrev has_label : List ℕ → Line → Bool
has_label label line = list_any (same_text label) line.labels

label_pc_from : (label : List ℕ) (i : ℕ) (lines : List Line) → option_and_then (slice_get (label_indices i lines)) (position_from (same_text label) 0 (flat_map (λ (line : Line). line.labels) lines)) ≡ position_from (has_label label) i lines
label_pc_from label i [] = refl
label_pc_from label i (line ∷ lines) =
    beside_many (same_text label) line.labels i (flat_map (λ (x : Line). x.labels) lines) (label_indices (i + 1) lines) ∙
    ap (λ o. cond (has_label label line) (Some i) o) (label_pc_from label (i + 1) lines)

pub label_pc_is : (label : List ℕ) (lines : List Line) → option_and_then (slice_get (label_indices 0 lines)) (position_from (same_text label) 0 (flat_map (λ (line : Line). line.labels) lines)) ≡ pc_of label lines
label_pc_is label lines = label_pc_from label 0 lines

-- one more line
label_indices_end : (i n : ℕ) (xs : List Line) (line : Line) → n ≡ i + length xs → label_indices i (xs ++ line ∷ []) ≡ label_indices i xs ++ map (λ label. n) line.labels
label_indices_end i n [] line e =
    let f : n ≡ i = omega (arith, e) in
    append-nil (map (λ label. i) line.labels) ∙ sym (ap (λ m. map (λ label. m) line.labels) f)
label_indices_end i n (x ∷ xs) line e =
    ap (λ z. map (λ label. i) x.labels ++ z) (label_indices_end (i + 1) n xs line (omega (arith, e))) ∙ sym (append_assoc (map (λ label. i) x.labels) (label_indices (i + 1) xs) (map (λ label. n) line.labels))

pub label_indices_more : (lines : List Line) (i : ℕ) (line : Line) → i < length lines → line ≡ get_or lines i line → label_indices 0 (take (i + 1) lines) ≡ label_indices 0 (take i lines) ++ map (λ label. i) line.labels
label_indices_more lines i line l e =
    ap (label_indices 0) (take_more lines i line l ∙ ap (λ x. take i lines ++ x ∷ []) (sym e)) ∙ (
    let k : length (take i lines) ≡ i = length-take-le i lines (omega (arith, l)) in
    label_indices_end 0 i (take i lines) line (omega (arith, k)))

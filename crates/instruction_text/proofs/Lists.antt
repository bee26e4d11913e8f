-- Lists that are written with commas between.
use Rattle.std.proofs.Common.{◌≡◌, ◌+◌, ◌<◌, ◌≤◌, ℕ, suc, List, [], ◌∷◌, ◌++◌, length, take, get_or, codes, sym, ap, ◌∙◌, add-one, append-nil}
use Rattle.std.specs.Prelude.{flat_map}
use Rattle.std.proofs.lemmas.List.{flat_map_more, take_all, take_more}
use Rattle.instruction_text.specs.Texts.{list_text}

module _ {A : Type 0} (text : A → List ℕ) (ts : List A) (x : A) (xs : List A) (is : ts ≡ x ∷ xs) where
  -- the first alone
  pub listed_first : text x ≡ list_text text (take 1 ts)
  listed_first = sym (append-nil (text x)) ∙ ap (λ l. list_text text (take 1 l)) (sym is)

  -- the first and i after it
  exact_count : (i : ℕ) → take (i + 1) ts ≡ x ∷ take i xs
  exact_count i = ap (λ n. take n ts) (add-one i) ∙ ap (take (suc i)) is

  -- one more
  pub listed_more : (i : ℕ) (y : A) → y ≡ get_or xs i y → i < length xs → list_text text (take (i + 1) ts) ++ (codes ", " ++ text y) ≡ list_text text (take (i + 1 + 1) ts)
  listed_more i y there below =
      ap (λ l. list_text text l ++ (codes ", " ++ text y)) (exact_count i)
      ∙ (flat_map_more (λ y. codes ", " ++ text y) (text x) (take i xs) y
      ∙ (ap (λ z. text x ++ flat_map (λ y. codes ", " ++ text y) (take i xs ++ z ∷ [])) there
      ∙ (ap (λ l. text x ++ flat_map (λ y. codes ", " ++ text y) l) (sym (take_more xs i y below))
      ∙ ap (list_text text) (sym (exact_count (i + 1))))))

  -- all
  pub listed_all : (i : ℕ) → length xs ≤ i → list_text text (take (i + 1) ts) ≡ list_text text ts
  listed_all i above = ap (list_text text) (exact_count i ∙ (ap (λ l. x ∷ l) (take_all i xs above) ∙ sym is))

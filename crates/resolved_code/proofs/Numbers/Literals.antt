-- The distinct literals of a tree, as they are met.
use Rattle.std.proofs.Common.{◌≡◌, ◌<◌, ◌+◌, length, take, get_or, ℕ, Bool, true, false, not, ◌||◌, if◌then◌else◌, List, [], ◌∷◌, ◌++◌, map, filter, refl, sym, ap, subst, ◌∙◌, append_assoc}
use Rattle.std.specs.List.{list_any, list_all}
use Rattle.std.specs.Cmp.{IsEquivalence}
use Rattle.std.proofs.lemmas.Bool.{and_from}
use Rattle.std.proofs.lemmas.List.{map-append}
use Rattle.cil_model.specs.Same.{same_text}
use Rattle.std.specs.List.{filter_map}
use Rattle.std.proofs.lemmas.List.Elements.{filter_map-append}
use Rattle.cil_model.specs.declared.instructions.Instruction.{Instruction}
use Rattle.cil_model.specs.Mentions.{each_once, literal_of}
use Rattle.name_tables.proofs.Lists.{map-take_more}
use Rattle.cil_model.proofs.Lists.{list_any_congr, list_any-map}
use Rattle.cil_model.proofs.SameLaws.{text_equivalence, same_text_itself}
use Rattle.cil_model.proofs.LiteralLaws.{any_kept, each_once_more}
use Rattle.name_tables.specs.declared.keys.TextKey.{TextKey}
use Rattle.name_tables.specs.Keys.{text_of_key}

-- a literal is met
pub literal_met : (ks : List TextKey) (k : TextKey) (xs : List (List ℕ)) → map text_of_key ks ≡ each_once same_text xs →
    map text_of_key (if list_any (λ q. same_text (text_of_key k) (text_of_key q)) ks then ks else ks ++ k ∷ []) ≡ each_once same_text (xs ++ text_of_key k ∷ [])
literal_met ks k xs e = by_test (list_any (λ q. same_text x (text_of_key q)) ks) refl ∙ sym (each_once_more same_text text_equivalence xs x)
  where
    x : List ℕ
    x = text_of_key k

    among : list_any (λ q. same_text x (text_of_key q)) ks ≡ list_any (λ z. same_text z x) (each_once same_text xs)
    among = sym (list_any-map text_of_key (same_text x) ks) ∙ ap (list_any (same_text x)) e ∙ list_any_congr (same_text x) (λ z. same_text z x) (λ z. text_equivalence.symm x z) (each_once same_text xs)

    by_test : (b : Bool) → list_any (λ q. same_text x (text_of_key q)) ks ≡ b →
        map text_of_key (if b then ks else ks ++ k ∷ []) ≡ (if list_any (λ z. same_text z x) (each_once same_text xs) then each_once same_text xs else each_once same_text xs ++ x ∷ [])
    by_test true h = e ∙ sym (ap (λ c. if c then each_once same_text xs else each_once same_text xs ++ x ∷ []) (sym among ∙ h))
    by_test false h = map-append text_of_key ks (k ∷ []) ∙ ap (λ z. z ++ x ∷ []) e ∙ sym (ap (λ c. if c then each_once same_text xs else each_once same_text xs ++ x ∷ []) (sym among ∙ h))

-- ---- each literal is among the distinct ones

module _ {X : Type 0} (same : X → X → Bool) (laws : IsEquivalence same) where
  any_once : (x : X) (ys : List X) → list_any (λ z. same z x) (each_once same ys) ≡ list_any (λ z. same z x) ys
  any_once x [] = refl
  any_once x (y ∷ ys) = by_test (same y x) refl (any_once x ys)
    where
      by_test : (b : Bool) → same y x ≡ b → list_any (λ z. same z x) (each_once same ys) ≡ list_any (λ z. same z x) ys → b || list_any (λ z. same z x) (filter (λ z. not (same y z)) (each_once same ys)) ≡ b || list_any (λ z. same z x) ys
      by_test true e later = refl
      by_test false e later = any_kept same laws y x e (each_once same ys) ∙ later

pub all_among_once : (xs : List (List ℕ)) → list_all (λ s. list_any (same_text s) (each_once same_text xs)) xs ≡ true
all_among_once xs = among [] xs
  where
    above : (s : List ℕ) (pre rest : List (List ℕ)) → list_any (λ z. same_text z s) (pre ++ s ∷ rest) ≡ true
    above s [] rest = ap (λ b. b || list_any (λ z. same_text z s) rest) (same_text_itself s)
    above s (y ∷ pre) rest = ap (λ b. same_text y s || b) (above s pre rest) ∙ always (same_text y s)
      where
        always : (b : Bool) → b || true ≡ true
        always true = refl
        always false = refl

    one : (pre : List (List ℕ)) (s : List ℕ) (rest : List (List ℕ)) → list_any (same_text s) (each_once same_text (pre ++ s ∷ rest)) ≡ true
    one pre s rest =
        list_any_congr (same_text s) (λ z. same_text z s) (λ z. text_equivalence.symm s z) (each_once same_text (pre ++ s ∷ rest)) ∙ any_once same_text text_equivalence s (pre ++ s ∷ rest) ∙ above s pre rest

    among : (pre rest : List (List ℕ)) → list_all (λ s. list_any (same_text s) (each_once same_text (pre ++ rest))) rest ≡ true
    among pre [] = refl
    among pre (s ∷ rest) =
        let later : list_all (λ z. list_any (same_text z) (each_once same_text ((pre ++ s ∷ []) ++ rest))) rest ≡ true = among (pre ++ s ∷ []) rest in
        let P : List (List ℕ) → Type 0 = λ whole. list_all (λ z. list_any (same_text z) (each_once same_text whole)) rest ≡ true in
        and_from _ _ (one pre s rest) (subst P (append_assoc pre (s ∷ []) rest) later)

-- one more instruction
pub literals_more : {Z : Type 0} (view : Z → Instruction) (zs : List Z) (i : ℕ) (z : Z) → i < length zs → z ≡ get_or zs i z →
    filter_map literal_of (map view (take (i + 1) zs)) ≡ filter_map literal_of (map view (take i zs)) ++ filter_map literal_of (view z ∷ [])
literals_more view zs i z l e =
    ap (filter_map literal_of) (map-take_more view zs i z l e) ∙ filter_map-append literal_of (map view (take i zs)) (view z ∷ [])

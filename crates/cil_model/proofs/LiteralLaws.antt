-- The list of a source's literals grows by one where a further one is new.
use Rattle.std.proofs.Common.{◌≡◌, Bool, true, false, not, if◌then◌else◌, ◌||◌, List, [], ◌∷◌, ◌++◌, filter, refl, sym, ap, ◌∙◌}
use Rattle.std.specs.List.{list_any}
use Rattle.std.specs.Cmp.{IsEquivalence}
use Rattle.std.proofs.lemmas.List.{append-nil}
use Rattle.std.proofs.lemmas.List.Elements.{filter-append}
use Rattle.cil_model.specs.Mentions.{each_once}

module _ {X : Type 0} (same : X → X → Bool) (laws : IsEquivalence same) where
  abbrev pub others : X → List X → List X
  others y es = filter (λ z. not (same y z)) es

  -- an item that is none of y's is not dropped with them
  pub any_kept : (y x : X) → same y x ≡ false → (es : List X) → list_any (λ z. same z x) (others y es) ≡ list_any (λ z. same z x) es
  any_kept y x apart [] = refl
  any_kept y x apart (z ∷ zs) = by_test (same y z) refl (any_kept y x apart zs)
    where
      by_test : (b : Bool) → same y z ≡ b → list_any (λ w. same w x) (others y zs) ≡ list_any (λ w. same w x) zs → list_any (λ w. same w x) (if not b then z ∷ others y zs else others y zs) ≡ (same z x || list_any (λ w. same w x) zs)
      by_test false e later = ap (λ t. same z x || t) later
      by_test true e later = later ∙ sym (ap (λ t. t || list_any (λ w. same w x) zs) (sym (laws.congr y z x e) ∙ apart))

  others_more : (y x : X) (es : List X) → others y (es ++ x ∷ []) ≡ others y es ++ (if not (same y x) then x ∷ [] else [])
  others_more y x es = filter-append (λ z. not (same y z)) es (x ∷ [])

  -- a further item is at the end, where it is the same as none before
  pub each_once_more : (xs : List X) (x : X) → each_once same (xs ++ x ∷ []) ≡ (if list_any (λ z. same z x) (each_once same xs) then each_once same xs else each_once same xs ++ x ∷ [])
  each_once_more [] x = refl
  each_once_more (y ∷ ys) x = ap (λ es. y ∷ others y es) (each_once_more ys x) ∙ by_tests (same y x) refl (list_any (λ z. same z x) (each_once same ys)) refl
    where
      E : List X
      E = each_once same ys

      by_tests : (t : Bool) → same y x ≡ t → (a : Bool) → list_any (λ z. same z x) E ≡ a →
          y ∷ others y (if a then E else E ++ x ∷ []) ≡ (if same y x || list_any (λ z. same z x) (others y E) then y ∷ others y E else (y ∷ others y E) ++ x ∷ [])
      by_tests true p true q = sym (ap (λ b. if b || list_any (λ z. same z x) (others y E) then y ∷ others y E else (y ∷ others y E) ++ x ∷ []) p)
      by_tests true p false q =
          ap (λ es. y ∷ es) (others_more y x E ∙ ap (λ b. others y E ++ (if not b then x ∷ [] else [])) p ∙ append-nil (others y E)) ∙
          sym (ap (λ b. if b || list_any (λ z. same z x) (others y E) then y ∷ others y E else (y ∷ others y E) ++ x ∷ []) p)
      by_tests false p true q =
          sym (ap (λ b. if b || list_any (λ z. same z x) (others y E) then y ∷ others y E else (y ∷ others y E) ++ x ∷ []) p ∙
          ap (λ b. if b then y ∷ others y E else (y ∷ others y E) ++ x ∷ []) (any_kept y x p E ∙ q))
      by_tests false p false q =
          ap (λ es. y ∷ es) (others_more y x E ∙ ap (λ b. others y E ++ (if not b then x ∷ [] else [])) p) ∙
          sym (ap (λ b. if b || list_any (λ z. same z x) (others y E) then y ∷ others y E else (y ∷ others y E) ++ x ∷ []) p ∙
          ap (λ b. if b then y ∷ others y E else (y ∷ others y E) ++ x ∷ []) (any_kept y x p E ∙ q))

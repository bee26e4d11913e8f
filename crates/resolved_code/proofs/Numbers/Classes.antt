-- The numbers of a legal tree's classes.
use Rattle.std.proofs.Common.{◌≡◌, ◌==◌, ℕ, zero, suc, Bool, true, false, cond, ◌||◌, IsTrue, List, [], ◌∷◌, map, slice_get, Option, Some, None, option_map, refl, sym, ap, subst, ◌∙◌}
use Rattle.std.specs.Prelude.{filter_map, codes}
use Rattle.std.specs.List.{list_any, position_from, cons_option}
use Rattle.std.proofs.lemmas.Bool.{or_parts, or_from, eqb-true, eq-eqb}
use Rattle.cil_model.specs.declared.types.ClassName.{ClassName}
use Rattle.cil_model.specs.declared.trees.Tree.{Tree}
use Rattle.cil_model.specs.declared.trees.Class.{Class}
use Rattle.cil_model.specs.Same.{same_class, same_text}
use Rattle.cil_model.specs.Declarations.{Declaration, declaration_of, mscorlib, cilvm}
use Rattle.cil_model.specs.Legality.{IsLegal, has_repeat, doubles_name}
use Rattle.cil_model.proofs.SameLaws.{same_class_equal, same_class_itself, class_equivalence}
use Rattle.cil_model.proofs.Legal.{unbroken}
use Rattle.cil_model.proofs.Lists.{passes_not, has_repeat-map}
use Rattle.name_tables.specs.Numbers.{class_number, declarations, source_entry}
use Rattle.name_tables.proofs.NumberLaws.{HasId, has_id, none_is_some, position_from-suc}

-- where no item occurs twice, each is found at its own index
pub first_index : {X : Type 0} (same : X → X → Bool) → ((x : X) → IsTrue (same x x)) → ((x y : X) → same x y ≡ same y x) → (xs : List X) (n : ℕ) (x : X) →
    has_repeat same xs ≡ false → slice_get xs n ≡ Some x → position_from (same x) 0 xs ≡ Some n
first_index same itself symm [] n x h e = absurd (none_is_some x e)
first_index {X} same itself symm (y ∷ ys) zero x h e =
    let s : y ≡ x = cc in
    ap (λ (z : X). cond (same x z) (Some 0) (position_from (same x) 1 ys)) s ∙ ap (λ b. cond b (Some 0) (position_from (same x) 1 ys)) (itself x)
first_index same itself symm (y ∷ ys) (suc n) x h e =
    let apart : same x y ≡ false = symm x y ∙ passes_not (same y) ys n x (or_parts _ _ h).0 e in
    ap (λ b. cond b (Some 0) (position_from (same x) 1 ys)) apart ∙ position_from-suc (same x) 0 ys ∙ ap (option_map suc) (first_index same itself symm ys n x (or_parts _ _ h).1 e)

module _ (tree : Tree) where
  -- ---- no class occurs twice

  abbrev same_entry : ClassName × Declaration → ClassName × Declaration → Bool
  same_entry a b = same_class a.0 b.0

  none_in_source : (a n : List ℕ) (cs : List Class) → list_any (λ (e : ClassName × Declaration). same_class (record { assembly = Some a; name = n }) e.0) (map source_entry cs) ≡ false
  none_in_source a n [] = refl
  none_in_source a n (c ∷ cs) = none_in_source a n cs

  names_occur_once : IsLegal tree → has_repeat (λ (a b : Class). same_text a.name b.name) tree.classes ≡ false
  names_occur_once legal =
      let h : doubles_name tree ≡ false = (unbroken _ 201 _ legal).0 in
      (or_parts _ _ (or_parts _ _ h).0).1

  pub entries_occur_once : IsLegal tree → has_repeat same_entry (declarations tree) ≡ false
  entries_occur_once legal =
      let among : has_repeat same_entry (map source_entry tree.classes) ≡ false = has_repeat-map source_entry same_entry tree.classes ∙ names_occur_once legal in
      or_from _ _ (none_in_source mscorlib (codes "System.Object") tree.classes) (
      or_from _ _ (none_in_source mscorlib (codes "System.String") tree.classes) (
      or_from _ _ (none_in_source mscorlib (codes "System.Console") tree.classes) (
      or_from _ _ (none_in_source mscorlib (codes "System.Threading.Monitor") tree.classes) (
      or_from _ _ (none_in_source cilvm (codes "Cilvm.Thread") tree.classes) among))))

  -- a class's index is the number of its name
  pub number_of_index : IsLegal tree → (n : ℕ) (e : ClassName × Declaration) → slice_get (declarations tree) n ≡ Some e → class_number tree e.0 ≡ Some n
  number_of_index legal n e h = first_index same_entry (λ x. same_class_itself x.0) (λ x y. class_equivalence.symm x.0 y.0) (declarations tree) n e (entries_occur_once legal) h

  -- ---- two names have one number only where they are the same

  abbrev pub FoundAt : ClassName → ℕ → Type 0
  FoundAt c n = (d : Declaration) × (declaration_of tree c ≡ Some d) × (slice_get (declarations tree) n ≡ Some (c, d))

  pub found_at : (c : ClassName) (n : ℕ) → class_number tree c ≡ Some n → FoundAt c n
  found_at c n e = subst (HasId tree c) e (has_id tree c)

  pub not_declared : (c : ClassName) → class_number tree c ≡ None → declaration_of tree c ≡ None
  not_declared c e = subst (HasId tree c) e (has_id tree c)

  pub known_apart : (c x : ClassName) (n : ℕ) → class_number tree c ≡ Some n → class_number tree x ≡ None → same_class c x ≡ false
  known_apart c x n e p = by_test (same_class c x) refl
    where
      by_test : (b : Bool) → same_class c x ≡ b → same_class c x ≡ false
      by_test false q = q
      by_test true q = absurd (none_is_some n (sym p ∙ ap (class_number tree) (sym (same_class_equal c x q)) ∙ e))

  pub number_equal : (c x : ClassName) (n m : ℕ) → class_number tree c ≡ Some n → class_number tree x ≡ Some m → (m == n) ≡ same_class c x
  number_equal c x n m e p = decided (m == n) refl (same_class c x) refl
    where
      one_name : n ≡ m → c ≡ x
      one_name h =
          let first : FoundAt c n = found_at c n e in
          let second : FoundAt x m = found_at x m p in
          let both : Some (c, first.0) ≡ Some (x, second.0) = sym first.2 ∙ ap (slice_get (declarations tree)) h ∙ second.2 in
          let pairs : (c, first.0) ≡ (x, second.0) = cc in
          ap (λ (y : ClassName × Declaration). y.0) pairs

      one_number : c ≡ x → n ≡ m
      one_number h = let s : Some n ≡ Some m = sym e ∙ ap (class_number tree) h ∙ p in cc

      decided : (v : Bool) → (m == n) ≡ v → (w : Bool) → same_class c x ≡ w → v ≡ w
      decided true h false k = let i : same_class c x ≡ true = let P : ClassName → Type 0 = λ y. same_class c y ≡ true in subst P (one_name (sym (eqb-true m n h))) (same_class_itself c) in sym i ∙ k
      decided false h true k = sym h ∙ eq-eqb m n (sym (one_number (same_class_equal c x k)))
      decided _ _ _ _ = refl

  -- a number is among those of names where its name is among them
  pub among_numbers : (c : ClassName) (n : ℕ) → class_number tree c ≡ Some n → (cs : List ClassName) → list_any (λ m. m == n) (filter_map (class_number tree) cs) ≡ list_any (same_class c) cs
  among_numbers c n e [] = refl
  among_numbers c n e (x ∷ cs) = by_number (class_number tree x) refl ∙ ap (λ b. same_class c x || b) (among_numbers c n e cs)
    where
      by_number : (o : Option ℕ) → class_number tree x ≡ o → list_any (λ m. m == n) (cons_option o (filter_map (class_number tree) cs)) ≡ same_class c x || list_any (λ m. m == n) (filter_map (class_number tree) cs)
      by_number None p = ap (λ b. b || list_any (λ m. m == n) (filter_map (class_number tree) cs)) (sym (known_apart c x n e p))
      by_number (Some m) p = ap (λ b. b || list_any (λ k. k == n) (filter_map (class_number tree) cs)) (number_equal c x n m e p)

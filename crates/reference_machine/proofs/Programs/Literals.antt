-- The literal that a declared method loads is one of the program's.
use Rattle.std.proofs.Common.{◌≡◌, ◌⊎◌, ℕ, zero, suc, Bool, true, false, not, IsTrue, ◌||◌, if◌then◌else◌, List, [], ◌∷◌, ◌++◌, filter, filter_map, flat_map, find, is_none, Option, Some, None, option_map, slice_get, Contains, refl, inl, inr, sym, ap, ◌∙◌, subst}
use Rattle.std.specs.List.{cons_option, list_any, list_all}
use Rattle.std.specs.Option.{option_map_or}
use Rattle.std.proofs.lemmas.Bool.{or_left, or_right}
use Rattle.std.proofs.lemmas.Map.Views.{Contains-from_any}
use Rattle.std.proofs.lemmas.Option.{same_Some, slice_get-map}
use Rattle.cil_model.specs.declared.types.ClassName.{ClassName}
use Rattle.cil_model.specs.declared.instructions.Instruction.{Instruction}
use Rattle.cil_model.specs.declared.instructions.Instruction.TheVariants.{LoadString}
use Rattle.cil_model.specs.declared.trees.Tree.{Tree}
use Rattle.cil_model.specs.declared.trees.Class.{Class}
use Rattle.cil_model.specs.declared.trees.Line.{Line}
use Rattle.cil_model.specs.declared.trees.Method.{Method}
use Rattle.cil_model.specs.Same.{same_text, same_class}
use Rattle.cil_model.specs.Declarations.{Declaration, source_name, declared_as, field_members, method_members, built_ins}
use Rattle.cil_model.specs.Bodies.{lines_of}
use Rattle.cil_model.specs.Chains.{methods_declared, listed_by}
use Rattle.cil_model.specs.Mentions.{instructions_of, methods_of_tree, instructions_of_tree, literal_of, each_once, literals_of}
use Rattle.cil_model.proofs.Lists.{none_is_some}
use Rattle.cil_model.proofs.SameLaws.{never, both_first, both_second, either, same_text_equal, same_text_itself}
use Rattle.cil_model.proofs.ChainLaws.{found_or_none}

-- ---- lists of which some item passes

module _ {X : Type 0} (test : X → Bool) where
  any_before : (xs ys : List X) → IsTrue (list_any test xs) → IsTrue (list_any test (xs ++ ys))
  any_before [] ys h = never h
  any_before (x ∷ xs) ys h = by_case (either (test x) (list_any test xs) h) (any_before xs ys)
    where
      by_case : IsTrue (test x) ⊎ IsTrue (list_any test xs) → (IsTrue (list_any test xs) → IsTrue (list_any test (xs ++ ys))) → IsTrue (test x || list_any test (xs ++ ys))
      by_case (inl k) later = or_left _ _ k
      by_case (inr k) later = or_right _ _ (later k)

  any_after : (xs ys : List X) → IsTrue (list_any test ys) → IsTrue (list_any test (xs ++ ys))
  any_after [] ys h = h
  any_after (x ∷ xs) ys h = or_right (test x) _ (any_after xs ys h)

  pub any_at : (xs : List X) (n : ℕ) (x : X) → slice_get xs n ≡ Some x → IsTrue (test x) → IsTrue (list_any test xs)
  any_at [] n x e h = none_is_some x e
  any_at (y ∷ ys) zero x e h = or_left _ _ (subst (λ z. IsTrue (test z)) (sym (same_Some y x e)) h)
  any_at (y ∷ ys) (suc n) x e h = or_right (test y) _ (any_at ys n x e h)

  all_at : (xs : List X) (n : ℕ) (x : X) → slice_get xs n ≡ Some x → IsTrue (list_all test xs) → IsTrue (test x)
  all_at [] n x e h = none_is_some x e
  all_at (y ∷ ys) zero x e h = subst (λ z. IsTrue (test z)) (same_Some y x e) (both_first _ _ h)
  all_at (y ∷ ys) (suc n) x e h = all_at ys n x e (both_second _ _ h)

  all_found : (sought : X → Bool) (xs : List X) (x : X) → find sought xs ≡ Some x → IsTrue (list_all test xs) → IsTrue (test x)
  all_found sought [] x e h = none_is_some x e
  all_found sought (y ∷ ys) x e h = by_test (sought y) e (all_found sought ys x)
    where
      by_test : (b : Bool) → (if b then Some y else find sought ys) ≡ Some x → (find sought ys ≡ Some x → IsTrue (list_all test ys) → IsTrue (test x)) → IsTrue (test x)
      by_test true k later = subst (λ z. IsTrue (test z)) (same_Some y x k) (both_first _ _ h)
      by_test false k later = later k (both_second _ _ h)

any_in_flat : {X Y : Type 0} (test : Y → Bool) (f : X → List Y) (xs : List X) → IsTrue (list_any (λ x. list_any test (f x)) xs) → IsTrue (list_any test (flat_map f xs))
any_in_flat test f [] h = never h
any_in_flat test f (x ∷ xs) h = by_case (either (list_any test (f x)) (list_any (λ y. list_any test (f y)) xs) h) (any_in_flat test f xs)
  where
    by_case : IsTrue (list_any test (f x)) ⊎ IsTrue (list_any (λ y. list_any test (f y)) xs) → (IsTrue (list_any (λ y. list_any test (f y)) xs) → IsTrue (list_any test (flat_map f xs))) → IsTrue (list_any test (f x ++ flat_map f xs))
    by_case (inl k) later = any_before test (f x) (flat_map f xs) k
    by_case (inr k) later = any_after test (f x) (flat_map f xs) (later k)

any_in_filter_map : {X Y : Type 0} (test : Y → Bool) (f : X → Option Y) (xs : List X) → IsTrue (list_any (λ x. option_map_or test (f x) false) xs) → IsTrue (list_any test (filter_map f xs))
any_in_filter_map test f [] h = never h
any_in_filter_map {X} {Y} test f (x ∷ xs) h = by_item (f x) h (any_in_filter_map test f xs)
  where
    Later : Type 0
    Later = IsTrue (list_any (λ y. option_map_or test (f y) false) xs) → IsTrue (list_any test (filter_map f xs))

    by_case : (y : Y) → IsTrue (test y) ⊎ IsTrue (list_any (λ z. option_map_or test (f z) false) xs) → Later → IsTrue (test y || list_any test (filter_map f xs))
    by_case y (inl k) later = or_left _ _ k
    by_case y (inr k) later = or_right (test y) _ (later k)

    by_item : (o : Option Y) → IsTrue (option_map_or test o false || list_any (λ y. option_map_or test (f y) false) xs) → Later → IsTrue (list_any test (cons_option o (filter_map f xs)))
    by_item None k later = later k
    by_item (Some y) k later = by_case y (either (test y) _ k) later

-- taking a text's equals away takes no other text away
any_kept : (c y : List ℕ) → same_text c y ≡ false → (es : List (List ℕ)) → IsTrue (list_any (same_text c) es) → IsTrue (list_any (same_text c) (filter (λ z. not (same_text y z)) es))
any_kept c y apart [] h = h
any_kept c y apart (z ∷ zs) h = by_test (same_text y z) refl (either (same_text c z) (list_any (same_text c) zs) h) (any_kept c y apart zs)
  where
    by_test : (b : Bool) → same_text y z ≡ b → IsTrue (same_text c z) ⊎ IsTrue (list_any (same_text c) zs) →
        (IsTrue (list_any (same_text c) zs) → IsTrue (list_any (same_text c) (filter (λ x. not (same_text y x)) zs))) →
        IsTrue (list_any (same_text c) (if not b then z ∷ filter (λ x. not (same_text y x)) zs else filter (λ x. not (same_text y x)) zs))
    by_test true e (inr k) later = later k
    by_test true e (inl k) later =
        let both : c ≡ y = same_text_equal c z k ∙ sym (same_text_equal y z e) in
        never (sym apart ∙ subst (λ x. IsTrue (same_text c x)) both (same_text_itself c))
    by_test false e (inl k) later = or_left _ _ k
    by_test false e (inr k) later = or_right (same_text c z) _ (later k)

-- each text is there once, so it is there
any_once : (c : List ℕ) (xs : List (List ℕ)) → IsTrue (list_any (same_text c) xs) → IsTrue (list_any (same_text c) (each_once same_text xs))
any_once c [] h = h
any_once c (x ∷ xs) h = by_test (same_text c x) refl h (any_once c xs)
  where
    others : List (List ℕ)
    others = filter (λ z. not (same_text x z)) (each_once same_text xs)

    by_test : (b : Bool) → same_text c x ≡ b → IsTrue (b || list_any (same_text c) xs) → (IsTrue (list_any (same_text c) xs) → IsTrue (list_any (same_text c) (each_once same_text xs))) → IsTrue (same_text c x || list_any (same_text c) others)
    by_test true e k later = or_left _ _ e
    by_test false e k later = or_right (same_text c x) _ (any_kept c x e (each_once same_text xs) (later k))

-- ---- the literals of a program

-- whether an instruction loads the literal
abbrev loads : List ℕ → Instruction → Bool
loads c i = option_map_or (same_text c) (literal_of i) false

-- whether a method loads none
abbrev loads_nothing : Method → Bool
loads_nothing m = list_all (λ i. is_none (literal_of i)) (instructions_of m)

module _ (tree : Tree) (c : List ℕ) (m : Method) (index : ℕ) (line : Line) (at : slice_get (lines_of m) index ≡ Some line) (is : line.instruction ≡ LoadString c) where
  instruction_there : slice_get (instructions_of m) index ≡ Some (LoadString c)
  instruction_there = slice_get-map (λ (l : Line). l.instruction) (lines_of m) index ∙ ap (option_map (λ (l : Line). l.instruction)) at ∙ ap Some is

  method_loads : IsTrue (list_any (loads c) (instructions_of m))
  method_loads = any_at (loads c) (instructions_of m) index (LoadString c) instruction_there (same_text_itself c)

  -- a method of the source
  in_source : (x : Class) (n : ℕ) → slice_get (method_members x) n ≡ Some m → ((also : Class → Bool) → IsTrue (also x) → IsTrue (list_any also tree.classes)) → Contains (literals_of tree) c
  in_source x n own among =
      let class_loads : IsTrue (list_any (λ k. list_any (λ y. list_any (loads c) (instructions_of y)) (method_members k)) tree.classes) =
      among (λ k. list_any (λ y. list_any (loads c) (instructions_of y)) (method_members k)) (any_at (λ y. list_any (loads c) (instructions_of y)) (method_members x) n m own method_loads) in
      let tree_loads : IsTrue (list_any (loads c) (instructions_of_tree tree)) =
      any_in_flat (loads c) instructions_of (methods_of_tree tree) (any_in_flat (λ y. list_any (loads c) (instructions_of y)) method_members tree.classes class_loads) in
      Contains-from_any same_text_equal c (literals_of tree) (any_once c (filter_map literal_of (instructions_of_tree tree)) (any_in_filter_map (same_text c) literal_of (instructions_of_tree tree) tree_loads))

  -- a built-in method loads none
  in_built_in : {A : Type 0} → IsTrue (loads_nothing m) → A
  in_built_in h = never (all_at (λ i. is_none (literal_of i)) (instructions_of m) index (LoadString c) instruction_there h)

  literal_at : (o : Option (List ℕ)) (own : List ℕ) (n : ℕ) → slice_get (methods_declared tree (record { assembly = o; name = own })) n ≡ Some m → Contains (literals_of tree) c
  literal_at None own n e = by_class (found_or_none (λ (x : Class). same_class (source_name x) (record { assembly = None; name = own })) tree.classes)
    where
      k : ClassName
      k = record { assembly = None; name = own }

      by_class : (find (λ (x : Class). same_class (source_name x) k) tree.classes ≡ None) ⊎
          ((x : Class) × (find (λ (y : Class). same_class (source_name y) k) tree.classes ≡ Some x) × IsTrue (same_class (source_name x) k) × ((also : Class → Bool) → IsTrue (also x) → IsTrue (list_any also tree.classes))) → Contains (literals_of tree) c
      by_class (inl none) = none_is_some m (sym (ap (λ (o : Option Class). slice_get (listed_by (λ (d : Declaration). d.methods) (option_map (λ (x : Class). declared_as x.kind (field_members x) (method_members x)) o)) n) none) ∙ e)
      by_class (inr (x, found, same, among)) = in_source x n (sym (ap (λ (o : Option Class). slice_get (listed_by (λ (d : Declaration). d.methods) (option_map (λ (y : Class). declared_as y.kind (field_members y) (method_members y)) o)) n) found) ∙ e) among
  literal_at (Some a) own n e = by_entry (find (λ (entry : ClassName × Declaration). same_class entry.0 k) built_ins) refl e
    where
      k : ClassName
      k = record { assembly = Some a; name = own }

      by_entry : (o : Option (ClassName × Declaration)) → find (λ (entry : ClassName × Declaration). same_class entry.0 k) built_ins ≡ o →
          slice_get (listed_by (λ (d : Declaration). d.methods) (option_map (λ (entry : ClassName × Declaration). entry.1) o)) n ≡ Some m → Contains (literals_of tree) c
      by_entry None found h = none_is_some m h
      by_entry (Some entry) found h =
          in_built_in (all_at loads_nothing entry.1.methods n m h (all_found (λ (x : ClassName × Declaration). list_all loads_nothing x.1.methods) (λ (x : ClassName × Declaration). same_class x.0 k) built_ins entry found refl))

  -- the literal of an instruction of a declared method
  pub literal_of_program : (owner : ClassName) (n : ℕ) → slice_get (methods_declared tree owner) n ≡ Some m → Contains (literals_of tree) c
  literal_of_program owner n e = literal_at owner.assembly owner.name n e

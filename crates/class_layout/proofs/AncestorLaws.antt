-- The numbers along a chain determine which classes a class is assignable to.
use Rattle.std.proofs.Common.{◌≡◌, ◌<◌, ◌≤◌, ◌⊎◌, inl, inr, get_or, ◌==◌, ℕ, Bool, false, ◌||◌, List, [], ◌∷◌, length, slice_get, Option, Some, None, option_map, unwrap_or, refl, sym, ap, ◌∙◌, arith}
use Rattle.std.specs.Prelude.{filter_map, flat_map}
use Rattle.std.specs.List.{list_any, cons_option}
use Rattle.std.proofs.lemmas.Option.{slice_get-map, slice_get_past, slice_get_within, slice_get_cases}
use Rattle.std.proofs.lemmas.List.Folds.{list_any-append}
use Rattle.cil_model.specs.declared.types.ClassName.{ClassName}
use Rattle.cil_model.specs.declared.trees.Tree.{Tree}
use Rattle.cil_model.specs.Same.{same_class}
use Rattle.cil_model.specs.Declarations.{Declaration}
use Rattle.cil_model.specs.Chains.{chain_of, interfaces_declared, listed_by}
use Rattle.cil_model.specs.Assignable.{is_class_assignable}
use Rattle.cil_model.specs.Legality.{IsLegal}
use Rattle.cil_model.proofs.SameLaws.{class_equivalence}
use Rattle.name_tables.specs.Numbers.{class_number, chain_numbers, declarations}
use Rattle.name_tables.proofs.NumberLaws.{none_is_some}
use Rattle.class_layout.specs.ByClass.{by_class, interface_numbers, assignable_row, with_interfaces, marked_at}
use Rattle.resolved_code.specs.ById.{class_name}
use Rattle.name_tables.proofs.Lists.{option_map_of_map}
use Rattle.class_layout.proofs.Indices.{same_elements}
use Rattle.resolved_code.proofs.Numbers.Classes.{found_at, not_declared, known_apart, number_equal, among_numbers, number_of_index}

module _ (tree : Tree) where
  abbrev listed : List (List ℕ)
  listed = by_class tree (interface_numbers tree)

  -- the result for a class is at its number
  pub answer_at : {X : Type 0} (answer : ClassName → X) (c : ClassName) (n : ℕ) → class_number tree c ≡ Some n → slice_get (by_class tree answer) n ≡ Some (answer c)
  answer_at answer c n e = slice_get-map (λ (y : ClassName × Declaration). answer y.0) (declarations tree) n ∙ ap (option_map (λ (y : ClassName × Declaration). answer y.0)) (found_at tree c n e).2

  -- the row of a number; none where no class has it
  pub row_by_id : {X : Type 0} (answer : ClassName → X) (n : ℕ) → slice_get (by_class tree answer) n ≡ option_map answer (class_name tree n)
  row_by_id answer n =
      slice_get-map (λ (y : ClassName × Declaration). answer y.0) (declarations tree) n ∙ sym (option_map_of_map (λ (y : ClassName × Declaration). y.0) answer (slice_get (declarations tree) n))

  -- the result of a table for a class
  pub answer_of : {X : Type 0} (answer : ClassName → X) (items : List X) (n : ℕ) (c : ClassName) (otherwise : X) → items ≡ by_class tree answer → class_name tree n ≡ Some c → unwrap_or (slice_get items n) otherwise ≡ answer c
  answer_of answer items n c otherwise e h =
      ap (λ xs. unwrap_or (slice_get xs n) otherwise) e ∙
      ap (λ o. unwrap_or o otherwise) (row_by_id answer n ∙ ap (option_map answer) h)

  pub marked_of : (rows : List (List Bool)) (n m : ℕ) (c d : ClassName) → rows ≡ by_class tree (assignable_row tree) → class_name tree n ≡ Some c → class_name tree m ≡ Some d → marked_at rows n m ≡ is_class_assignable tree c d
  marked_of rows n m c d e h k = answer_of (is_class_assignable tree c) (unwrap_or (slice_get rows n) []) m d false (answer_of (assignable_row tree) rows n c [] e h) k

  abbrev links : ClassName → ClassName → Bool
  links d k = same_class k d || list_any (same_class d) (interfaces_declared tree k)

  among_links : (d : ClassName) (j : ℕ) → class_number tree d ≡ Some j → (cs : List ClassName) →
      list_any (λ m. m == j) (flat_map (with_interfaces listed) (filter_map (class_number tree) cs)) ≡ list_any (links d) cs
  among_links d j e [] = refl
  among_links d j e (k ∷ cs) = by_number (class_number tree k) refl ∙ ap (λ b. links d k || b) (among_links d j e cs)
    where
      by_number : (o : Option ℕ) → class_number tree k ≡ o → list_any (λ m. m == j) (flat_map (with_interfaces listed) (cons_option o (filter_map (class_number tree) cs))) ≡ links d k || list_any (λ m. m == j) (flat_map (with_interfaces listed) (filter_map (class_number tree) cs))
      by_number None p =
          let apart : same_class k d ≡ false = class_equivalence.symm k d ∙ known_apart tree d k j e p in
          let none : list_any (same_class d) (interfaces_declared tree k) ≡ false = ap (λ o. list_any (same_class d) (listed_by (λ (x : Declaration). x.interfaces) o)) (not_declared tree k p) in
          sym (ap (λ b. (b || list_any (same_class d) (interfaces_declared tree k)) || list_any (λ m. m == j) (flat_map (with_interfaces listed) (filter_map (class_number tree) cs))) apart ∙ ap (λ b. b || list_any (λ m. m == j) (flat_map (with_interfaces listed) (filter_map (class_number tree) cs))) none)
      by_number (Some n) p =
          let row : unwrap_or (slice_get listed n) [] ≡ interface_numbers tree k = ap (λ o. unwrap_or o []) (answer_at (interface_numbers tree) k n p) in
          list_any-append (λ m. m == j) (with_interfaces listed n) (flat_map (with_interfaces listed) (filter_map (class_number tree) cs)) ∙
          ap (λ ms. ((n == j) || list_any (λ m. m == j) ms) || list_any (λ m. m == j) (flat_map (with_interfaces listed) (filter_map (class_number tree) cs))) row ∙
          ap (λ b. ((n == j) || b) || list_any (λ m. m == j) (flat_map (with_interfaces listed) (filter_map (class_number tree) cs))) (among_numbers tree d j e (interfaces_declared tree k)) ∙
          ap (λ b. (b || list_any (same_class d) (interfaces_declared tree k)) || list_any (λ m. m == j) (flat_map (with_interfaces listed) (filter_map (class_number tree) cs))) (number_equal tree d k j n e p ∙ class_equivalence.symm d k)

  -- the marks of a class's ancestors are its row
  pub row_of_marks : IsLegal tree → (c : ClassName) (bits : List Bool) (count : ℕ) (numbers : List ℕ) → numbers ≡ flat_map (with_interfaces listed) (chain_numbers tree c) → count ≡ length (declarations tree) → length bits ≡ count →
      ((j : ℕ) → j < count → slice_get bits j ≡ Some (list_any (λ m. m == j) numbers)) → bits ≡ assignable_row tree c
  row_of_marks legal c bits count numbers are counted long marked = same_elements bits (assignable_row tree c) (λ j. at j (slice_get (declarations tree) j) refl)
    where
      answered : (j : ℕ) (o : Option (ClassName × Declaration)) → slice_get (declarations tree) j ≡ o → slice_get (assignable_row tree c) j ≡ option_map (λ (y : ClassName × Declaration). is_class_assignable tree c y.0) o
      answered j o h = slice_get-map (λ (y : ClassName × Declaration). is_class_assignable tree c y.0) (declarations tree) j ∙ ap (option_map (λ (y : ClassName × Declaration). is_class_assignable tree c y.0)) h

      at : (j : ℕ) (o : Option (ClassName × Declaration)) → slice_get (declarations tree) j ≡ o → slice_get bits j ≡ slice_get (assignable_row tree c) j
      at j None h = slice_get_past bits j (past (slice_get_cases (declarations tree) j).1) ∙ sym (answered j None h)
        where
          past : ((x : ClassName × Declaration) × (j < length (declarations tree)) × (slice_get (declarations tree) j ≡ Some x) × (get_or (declarations tree) j x ≡ x)) ⊎ ((length (declarations tree) ≤ j) × (slice_get (declarations tree) j ≡ None)) → length bits ≤ j
          past (inl (x, l, e, g)) = absurd (none_is_some x (sym h ∙ e))
          past (inr (l, e)) = omega (arith, l, counted, long)
      at j (Some e) h =
          let within : j < length (declarations tree) = slice_get_within (declarations tree) j e h in
          let l : j < count = omega (arith, within, counted) in
          marked j l ∙ ap (λ ms. Some (list_any (λ m. m == j) ms)) are ∙ ap Some (among_links e.0 j (number_of_index tree legal j e h) (chain_of tree c)) ∙ sym (answered j (Some e) h)

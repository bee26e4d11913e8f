-- How many fields there are, by the classes that declare them.
use Rattle.std.proofs.Common.{◌≡◌, ◌≤◌, ◌+◌, ℕ, Bool, true, false, not, nat_le, List, [], ◌∷◌, length, reverse, Option, Some, None, slice_get, refl, sym, ap, subst, ◌∙◌, arith}
use Rattle.std.specs.Prelude.{filter, filter_map, count_by}
use Rattle.std.specs.List.{sum_by, list_all, cons_option}
use Rattle.std.specs.Option.{option_map_or}
use Rattle.std.proofs.lemmas.List.{length-map}
use Rattle.std.proofs.lemmas.List.Concat.{length-flat_map}
use Rattle.std.proofs.lemmas.List.Sums.{length-filter, sum_by-cons}
use Rattle.std.proofs.lemmas.List.Sorted.{sum_by-IsPermutation, IsPermutation-reverse}
use Rattle.cil_model.specs.declared.types.ClassName.{ClassName}
use Rattle.cil_model.specs.declared.types.DeclaredType.{DeclaredType}
use Rattle.cil_model.specs.declared.trees.Tree.{Tree}
use Rattle.cil_model.specs.declared.trees.Class.{Class}
use Rattle.cil_model.specs.declared.trees.Field.{Field}
use Rattle.cil_model.specs.Same.{same_flag}
use Rattle.cil_model.specs.Declarations.{Declaration, declaration_of, source_name}
use Rattle.cil_model.specs.Chains.{chain_of, fields_declared, listed_by}
use Rattle.cil_model.specs.Fields.{keyed_fields, instance_fields, static_fields}
use Rattle.name_tables.specs.Numbers.{declarations, class_number, chain_numbers}
use Rattle.name_tables.proofs.NumberLaws.{HasId, has_id, declared_at_none}
use Rattle.cil_model.specs.declared.limits.TheConstants.{MOST_CLASSES, MOST_METHODS, MOST_STATIC_FIELDS, MOST_BRACKETS}
use Rattle.cil_model.specs.Mentions.{methods_of_tree, types_of_tree}
use Rattle.cil_model.specs.Legality.{is_small_class, passes_limit}
use Rattle.std.proofs.lemmas.Bool.{le-leb}
use Rattle.resolved_code.proofs.ListLaws.Tests.{third_fails, last_decides}
use Rattle.metadata.specs.Counts.{count_in, instance_count, static_count}

sum_by_congr : {X : Type 0} (f g : X → ℕ) → ((x : X) → f x ≡ g x) → (xs : List X) → sum_by f xs ≡ sum_by g xs
sum_by_congr f g same [] = refl
sum_by_congr f g same (x ∷ xs) = sum_by-cons f x xs ∙ ap (λ n. n + sum_by f xs) (same x) ∙ ap (λ n. g x + n) (sum_by_congr f g same xs) ∙ sym (sum_by-cons g x xs)

module _ (tree : Tree) where
  -- the fields of one class
  abbrev own_count : Bool → ClassName → ℕ
  own_count is_static c = count_by (λ (f : Field). same_flag f.is_static is_static) (fields_declared tree c)

  own_counted : (is_static : Bool) (c : ClassName) → length (keyed_fields tree is_static c) ≡ own_count is_static c
  own_counted is_static c =
      length-map (filter (λ (f : Field). same_flag f.is_static is_static) (fields_declared tree c)) (λ (f : Field). (record { declared_in = c; name = f.name }, f.field_type)) ∙ length-filter (λ (f : Field). same_flag f.is_static is_static) (fields_declared tree c)

  by_declaration : (is_static : Bool) (o : Option Declaration) → count_by (λ (f : Field). same_flag f.is_static is_static) (listed_by (λ d. d.fields) o) ≡ option_map_or (count_in is_static) o 0
  by_declaration is_static None = refl
  by_declaration is_static (Some d) = refl

  pub static_total : length (static_fields tree) ≡ sum_by (static_count tree) tree.classes
  static_total =
      length-flat_map (λ (c : Class). keyed_fields tree true (source_name c)) tree.classes ∙
      sum_by_congr (λ (c : Class). length (keyed_fields tree true (source_name c))) (static_count tree) (λ c. own_counted true (source_name c) ∙ by_declaration true (declaration_of tree (source_name c))) tree.classes

  along_chain : (cs : List ClassName) → sum_by (own_count false) cs ≡ sum_by (instance_count tree) (filter_map (class_number tree) cs)
  along_chain [] = refl
  along_chain (c ∷ cs) = sum_by-cons (own_count false) c cs ∙ by_number (class_number tree c) refl (along_chain cs)
    where
      by_number : (o : Option ℕ) → class_number tree c ≡ o → sum_by (own_count false) cs ≡ sum_by (instance_count tree) (filter_map (class_number tree) cs) →
          own_count false c + sum_by (own_count false) cs ≡ sum_by (instance_count tree) (cons_option o (filter_map (class_number tree) cs))
      by_number None e further =
          let none : own_count false c ≡ 0 = ap (λ z. count_by (λ (f : Field). same_flag f.is_static false) (listed_by (λ d. d.fields) z)) (declared_at_none tree c e) in
          omega (arith, none, further)
      by_number (Some n) e further =
          let found : (x : Declaration) × (declaration_of tree c ≡ Some x) × (slice_get (declarations tree) n ≡ Some (c, x)) = subst (HasId tree c) e (has_id tree c) in
          let here : own_count false c ≡ instance_count tree n =
          ap (λ z. count_by (λ (f : Field). same_flag f.is_static false) (listed_by (λ d. d.fields) z)) found.1 ∙ sym (ap (λ z. option_map_or (λ (y : ClassName × Declaration). count_in false y.1) z 0) found.2) in
          ap (λ m. m + sum_by (own_count false) cs) here ∙ ap (λ m. instance_count tree n + m) further ∙ sym (sum_by-cons (instance_count tree) n (filter_map (class_number tree) cs))

  pub instance_total : (c : ClassName) → length (instance_fields tree c) ≡ sum_by (instance_count tree) (chain_numbers tree c)
  instance_total c =
      length-flat_map (keyed_fields tree false) (reverse (chain_of tree c)) ∙ sum_by_congr (λ k. length (keyed_fields tree false k)) (own_count false) (own_counted false) (reverse (chain_of tree c)) ∙
      sum_by-IsPermutation (own_count false) (chain_of tree c) (reverse (chain_of tree c)) (IsPermutation-reverse (chain_of tree c)) ∙ along_chain (chain_of tree c)

  -- ---- the whole rule

  abbrev few_classes : Bool
  few_classes = nat_le (length tree.classes) MOST_CLASSES

  abbrev few_methods : Bool
  few_methods = nat_le (length (methods_of_tree tree)) MOST_METHODS

  abbrev few_static_fields : Bool
  few_static_fields = nat_le (length (static_fields tree)) MOST_STATIC_FIELDS

  abbrev small_types : Bool
  small_types = list_all (λ (t : DeclaredType). nat_le t.brackets MOST_BRACKETS) (types_of_tree tree)

  abbrev small_classes : Bool
  small_classes = list_all (is_small_class tree) tree.classes

  few_static : nat_le (sum_by (static_count tree) tree.classes) MOST_STATIC_FIELDS ≡ few_static_fields
  few_static = ap (λ n. nat_le n MOST_STATIC_FIELDS) (sym static_total)

  pub static_fail : nat_le (sum_by (static_count tree) tree.classes) MOST_STATIC_FIELDS ≡ false → true ≡ passes_limit tree
  static_fail h = sym (ap not (third_fails few_classes few_methods few_static_fields small_types small_classes (sym few_static ∙ h)))

  pub classes_decide : (b : Bool) → length tree.classes ≤ MOST_CLASSES → few_methods ≡ true → nat_le (sum_by (static_count tree) tree.classes) MOST_STATIC_FIELDS ≡ true → small_types ≡ true → b ≡ small_classes → not b ≡ passes_limit tree
  classes_decide b h i j k e = sym (ap not (last_decides few_classes few_methods few_static_fields small_types small_classes (le-leb (length tree.classes) MOST_CLASSES h) i (sym few_static ∙ j) k ∙ sym e))

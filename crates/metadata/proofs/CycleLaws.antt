-- A class is below itself where its number is in the chain of its base.
use Rattle.std.proofs.Common.{◌≡◌, ◌==◌, ℕ, true, false, Option, Some, None, option_and_then, slice_get, refl, sym, ap, ◌∙◌}
use Rattle.std.specs.List.{list_any}
use Rattle.cil_model.specs.declared.types.ClassName.{ClassName}
use Rattle.cil_model.specs.declared.trees.Tree.{Tree}
use Rattle.cil_model.specs.Same.{same_class}
use Rattle.cil_model.specs.declared.trees.Class.{Class}
use Rattle.cil_model.specs.Declarations.{Declaration, source_name}
use Rattle.std.proofs.lemmas.Map.Keys.{any_passes_from_place}
use Rattle.inheritance.specs.Lines.{base_in, Ends}
use Rattle.inheritance.proofs.LineLaws.{line_of_none, not_among}
use Rattle.name_tables.specs.Members.{base_numbers}
use Rattle.name_tables.specs.Methods.{line_of}
use Rattle.name_tables.proofs.MemberLaws.{base_in_numbers, line_is_chain}
use Rattle.cil_model.specs.Chains.{base_of, chain_within, chain_of, longest_chain}
use Rattle.cil_model.specs.Legality.{is_own_base, has_cycle}
use Rattle.name_tables.specs.Numbers.{class_number, chain_numbers}
use Rattle.name_tables.proofs.NumberLaws.{base_at}
use Rattle.resolved_code.proofs.Numbers.Classes.{FoundAt, found_at, not_declared, among_numbers}

module _ (tree : Tree) where
  pub base_has_id : (c : ClassName) (n : ℕ) → class_number tree c ≡ Some n → base_of tree c ≡ base_at tree n
  base_has_id c n e =
      let found : FoundAt tree c n = found_at tree c n e in
      ap (option_and_then (λ (d : Declaration). d.base)) found.1 ∙ sym (ap (option_and_then (λ (y : ClassName × Declaration). y.1.base)) found.2)

  -- a name that refers to nothing has no base
  pub base_unknown : (c : ClassName) → class_number tree c ≡ None → base_of tree c ≡ None
  base_unknown c e = ap (option_and_then (λ (d : Declaration). d.base)) (not_declared tree c e)

  pub no_number : (c : ClassName) → class_number tree c ≡ None → is_own_base tree c ≡ false
  no_number c e =
      ap (λ d. list_any (same_class c) (chain_within tree (longest_chain tree) (option_and_then (λ (x : Declaration). x.base) d))) (not_declared tree c e)

  pub no_base : (c : ClassName) (n : ℕ) → class_number tree c ≡ Some n → base_at tree n ≡ None → is_own_base tree c ≡ false
  no_base c n e f = ap (λ b. list_any (same_class c) (chain_within tree (longest_chain tree) b)) (base_has_id c n e ∙ f)

  pub own_number : (c b : ClassName) (n : ℕ) → class_number tree c ≡ Some n → base_at tree n ≡ Some b → list_any (λ m. m == n) (chain_numbers tree b) ≡ is_own_base tree c
  own_number c b n e f = among_numbers tree c n e (chain_of tree b) ∙ sym (ap (λ o. list_any (same_class c) (chain_within tree (longest_chain tree) o)) (base_has_id c n e ∙ f))

  -- the class is met again from its base on
  pub own_line : (c : ClassName) (n : ℕ) → class_number tree c ≡ Some n → is_own_base tree c ≡ list_any (λ m. m == n) (line_of tree (base_in (base_numbers tree) n))
  own_line c n e = by_base (base_at tree n) refl
    where
      by_base : (o : Option ClassName) → base_at tree n ≡ o → is_own_base tree c ≡ list_any (λ m. m == n) (line_of tree (base_in (base_numbers tree) n))
      by_base None f =
          no_base c n e f ∙
          sym (ap (λ o. list_any (λ m. m == n) (line_of tree o)) (base_in_numbers tree n ∙ ap (option_and_then (class_number tree)) f) ∙ ap (list_any (λ m. m == n)) (line_of_none (base_numbers tree) (longest_chain tree)))
      by_base (Some b) f =
          sym (own_number c b n e f) ∙ ap (list_any (λ m. m == n)) (sym (line_is_chain tree (longest_chain tree) (Some b))) ∙
          ap (λ o. list_any (λ m. m == n) (line_of tree o)) (sym (base_in_numbers tree n ∙ ap (option_and_then (class_number tree)) f))

  -- where its bases end, it is not
  pub not_own : (c : ClassName) (n : ℕ) → class_number tree c ≡ Some n → Ends (base_numbers tree) (longest_chain tree) n → is_own_base tree c ≡ false
  not_own c n e ends = own_line c n e ∙ not_among (base_numbers tree) n (longest_chain tree) (longest_chain tree) ends

  pub some_round : (i : ℕ) (c : Class) → slice_get tree.classes i ≡ Some c → is_own_base tree (source_name c) ≡ true → true ≡ has_cycle tree
  some_round i c e h = sym (any_passes_from_place (λ (k : Class). is_own_base tree (source_name k)) tree.classes i c e h)

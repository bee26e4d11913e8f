-- What a legal tree has within its limits, one limit at a time: classes, methods and static fields.
use Rattle.std.proofs.Common.{◌≡◌, ◌≤◌, ℕ, zero, suc, Bool, true, false, not, nat_le, ◌&&◌, IsTrue, List, [], ◌∷◌, length, Some, None, slice_get, refl, sym, subst, ◌∙◌}
use Rattle.std.specs.List.{list_all}
use Rattle.std.proofs.lemmas.Bool.{leb-true}
use Rattle.std.proofs.Math.Bool.{not-not}
use Rattle.cil_model.specs.declared.types.DeclaredType.{DeclaredType}
use Rattle.cil_model.specs.declared.trees.Tree.{Tree}
use Rattle.cil_model.specs.declared.limits.TheConstants.{MOST_CLASSES, MOST_METHODS, MOST_STATIC_FIELDS, MOST_BRACKETS}
use Rattle.cil_model.specs.Fields.{static_fields}
use Rattle.cil_model.specs.Mentions.{methods_of_tree, types_of_tree}
use Rattle.cil_model.specs.Legality.{IsLegal, first_broken, doubles_name, lacks_name, has_cycle, lacks_implementation, has_kind_mismatch, lacks_entry, is_small_class, passes_limit}
use Rattle.cil_model.proofs.Lists.{none_is_some}
use Rattle.std.proofs.lemmas.Option.{same_Some}
use Rattle.cil_model.proofs.SameLaws.{both_first, both_second}

-- where no rule is the first that is broken, each is kept
kept : (rules : List (ℕ × Bool)) (n : ℕ) (r : ℕ × Bool) → first_broken rules ≡ None → slice_get rules n ≡ Some r → IsTrue (not r.1)
kept [] n r h e = none_is_some r e
kept ((m, true) ∷ rules) n r h e = none_is_some m (sym h)
kept ((m, false) ∷ rules) zero r h e = subst (λ (x : ℕ × Bool). IsTrue (not x.1)) (same_Some (m, false) r e) refl
kept ((m, false) ∷ rules) (suc n) r h e = kept rules n r h e

module _ (tree : Tree) (legal : IsLegal tree) where
  -- the limits of the whole tree
  limits_kept : IsTrue (
      nat_le (length tree.classes) MOST_CLASSES && nat_le (length (methods_of_tree tree)) MOST_METHODS && nat_le (length (static_fields tree)) MOST_STATIC_FIELDS &&
      list_all (λ (t : DeclaredType). nat_le t.brackets MOST_BRACKETS) (types_of_tree tree) && list_all (is_small_class tree) tree.classes)
  limits_kept =
      let rules : List (ℕ × Bool) =
      (201, doubles_name tree) ∷ (202, lacks_name tree) ∷ (203, has_cycle tree) ∷ (204, lacks_implementation tree) ∷ (205, has_kind_mismatch tree) ∷ (206, lacks_entry tree) ∷ (207, passes_limit tree) ∷ [] in
      sym (not-not _) ∙ kept rules 6 (207, passes_limit tree) legal refl

  -- the source has few classes
  pub source_classes_few : length tree.classes ≤ MOST_CLASSES
  source_classes_few = leb-true _ _ (both_first _ _ (both_first _ _ (both_first _ _ (both_first _ _ limits_kept))))

  -- the source has few methods
  pub source_methods_few : length (methods_of_tree tree) ≤ MOST_METHODS
  source_methods_few = leb-true _ _ (both_second _ _ (both_first _ _ (both_first _ _ (both_first _ _ limits_kept))))

  -- there are few static fields
  pub static_fields_few : length (static_fields tree) ≤ MOST_STATIC_FIELDS
  static_fields_few = leb-true _ _ (both_second _ _ (both_first _ _ (both_first _ _ limits_kept)))

  -- each class of the source keeps the limits of a class
  pub source_classes_small : IsTrue (list_all (is_small_class tree) tree.classes)
  source_classes_small = both_second _ _ limits_kept

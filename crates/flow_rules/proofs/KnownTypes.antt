-- Types whose classes have numbers are those that they are named.
use Rattle.std.proofs.Common.{◌≡◌, ℕ, Bool, true, is_some, Option, Some, None, option_map, refl, ap, ◌∙◌}
use Rattle.std.specs.Option.{option_map_or}
use Rattle.cil_model.specs.declared.types.ClassName.{ClassName}
use Rattle.cil_model.specs.declared.types.Element.{Element}
use Rattle.cil_model.specs.declared.types.Element.TheVariants as Named
use Rattle.cil_model.specs.declared.types.DeclaredType.{DeclaredType}
use Rattle.cil_model.specs.declared.trees.Tree.{Tree}
use Rattle.cil_model.specs.Declarations.{object_name}
use Rattle.cil_model.specs.Assignable.{is_class_assignable}
use Rattle.resolved_code.specs.ById.{class_name, element_at, type_at}
use Rattle.resolved_code.specs.TypeTests.{IsResultOf}
use Rattle.resolved_code.specs.declared.types.ResolvedElement.{ResolvedElement}
use Rattle.resolved_code.specs.declared.types.ResolvedElement.TheVariants.{Class}
use Rattle.resolved_code.specs.declared.types.ResolvedType.{ResolvedType}
use Rattle.resolved_code.specs.declared.type_tests.TypeTest.TheVariants.{OfClasses}
use Rattle.flow_rules.specs.StackTypes.{class_named, element_named, type_named, is_known}
use Rattle.flow_rules.proofs.Classes.{element_at_number}

module _ (tree : Tree) where
  element_refines : (n : ResolvedElement) → is_known tree n ≡ true → element_at tree n ≡ Some (element_named tree n)
  element_refines (Class n) k = by_name (class_name tree n) k
    where
      by_name : (o : Option ClassName) → is_some o ≡ true → option_map Named.Class o ≡ Some (Named.Class (option_map_or (λ (c : ClassName). c) o object_name))
      by_name None h = absurd (cc h)
      by_name (Some c) h = refl
  element_refines _ _ = refl

  -- a known type represents the one that it has the name of
  pub type_refines : (n m : ResolvedType) → is_known tree n.element ≡ true → type_named tree n ≡ type_named tree m → type_at tree n ≡ Some (type_named tree m)
  type_refines n m k e =
      ap (option_map (λ (x : Element). let t : DeclaredType = record { element = x; brackets = n.brackets } in t)) (element_refines n.element k) ∙ ap Some e

  -- the classes of a test by their names
  pub classes_tested : (from to : ℕ) (b : Bool) → IsResultOf tree (OfClasses from to) b → is_class_assignable tree (class_named tree from) (class_named tree to) ≡ b
  classes_tested from to b (c, d, h, k, e) =
      ap (λ x. is_class_assignable tree x (class_named tree to)) (element_at_number tree from c h) ∙ ap (is_class_assignable tree c) (element_at_number tree to d k) ∙ e

  pub first_known : (from to : ℕ) (b : Bool) → IsResultOf tree (OfClasses from to) b → is_known tree (Class from) ≡ true
  first_known from to b (c, d, h, k, e) = ap is_some h

  pub second_known : (from to : ℕ) (b : Bool) → IsResultOf tree (OfClasses from to) b → is_known tree (Class to) ≡ true
  second_known from to b (c, d, h, k, e) = ap is_some k

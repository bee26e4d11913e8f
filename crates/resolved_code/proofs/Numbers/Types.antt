-- A resolved type that represents a type is named as that one.
use Rattle.std.proofs.Common.{◌≡◌, List, [], ◌∷◌, map, Option, Some, None, option_map, refl, ap, ◌∙◌}
use Rattle.std.specs.Option.{option_map_or}
use Rattle.std.proofs.lemmas.Option.{same_Some}
use Rattle.cil_model.specs.declared.types.ClassName.{ClassName}
use Rattle.cil_model.specs.declared.types.DeclaredType.{DeclaredType}
use Rattle.cil_model.specs.declared.types.Element.{Element}
use Rattle.cil_model.specs.declared.types.Element.TheVariants.{Class as ClassElement}
use Rattle.cil_model.specs.declared.trees.Tree.{Tree}
use Rattle.cil_model.specs.Declarations.{object_name}
use Rattle.cil_model.proofs.Lists.{none_is_some}
use Rattle.resolved_code.specs.ById.{class_name, element_at, type_at, AreTypes, element_named, type_named, types_named}
use Rattle.resolved_code.specs.declared.types.ResolvedElement.{ResolvedElement}
use Rattle.resolved_code.specs.declared.types.ResolvedElement.TheVariants.{Class}
use Rattle.resolved_code.specs.declared.types.ResolvedType.{ResolvedType}

module _ (tree : Tree) where
  element_is_named : (e : ResolvedElement) (d : Element) → element_at tree e ≡ Some d → element_named tree e ≡ d
  element_is_named (Class n) d h = by_name (class_name tree n) refl h
    where
      by_name : (o : Option ClassName) → class_name tree n ≡ o → option_map ClassElement o ≡ Some d → element_named tree (Class n) ≡ d
      by_name None e f = none_is_some d f
      by_name (Some c) e f = ap (λ (o : Option ClassName). ClassElement (option_map_or (λ (x : ClassName). x) o object_name)) e ∙ same_Some (ClassElement c) d f
  element_is_named _ d h = same_Some _ d h

  pub type_is_named : (t : ResolvedType) (d : DeclaredType) → type_at tree t ≡ Some d → type_named tree t ≡ d
  type_is_named t d h = by_element (element_at tree t.element) refl h
    where
      by_element : (o : Option Element) → element_at tree t.element ≡ o → option_map (λ (e : Element). let s : DeclaredType = record { element = e; brackets = t.brackets } in s) o ≡ Some d → type_named tree t ≡ d
      by_element None e f = none_is_some d f
      by_element (Some x) e f =
          let s : DeclaredType = record { element = x; brackets = t.brackets } in
          ap (λ (y : Element). let s : DeclaredType = record { element = y; brackets = t.brackets } in s) (element_is_named t.element x e) ∙ same_Some s d f

  pub types_are_named : (ts : List ResolvedType) (ds : List DeclaredType) → AreTypes tree ts ds → types_named tree ts ≡ ds
  types_are_named [] [] h = refl
  types_are_named (t ∷ ts) (d ∷ ds) h =
      let first : type_at tree t ≡ Some d = cc in
      let others : map (type_at tree) ts ≡ map Some ds = cc in
      λ i. type_is_named t d first i ∷ types_are_named ts ds others i
  types_are_named _ _ h = absurd (cc h)

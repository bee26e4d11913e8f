-- The types of objects by the numbers of their classes.
use Rattle.std.proofs.Common.{◌≡◌, ℕ, Bool, true, Option, Some, None, option_map, refl, ap, ◌∙◌}
use Rattle.std.specs.Option.{is_some, option_map_or}
use Rattle.cil_model.specs.declared.types.ClassName.{ClassName}
use Rattle.cil_model.specs.declared.types.DeclaredType.{DeclaredType}
use Rattle.cil_model.specs.declared.types.Element.{Element}
use Rattle.cil_model.specs.declared.trees.Tree.{Tree}
use Rattle.cil_model.specs.Declarations.{object_name}
use Rattle.cil_model.specs.Assignable.{element_of_class, type_of_class}
use Rattle.resolved_code.specs.ById.{class_name, element_at, type_at}
use Rattle.resolved_code.specs.declared.types.ResolvedElement.{ResolvedElement}
use Rattle.resolved_code.specs.declared.types.ResolvedElement.TheVariants.{Class}
use Rattle.resolved_code.specs.declared.types.ResolvedType.{ResolvedType}
use Rattle.std.specs.Prelude.{IsSome, ◌==◌, false, if◌then◌else◌, option_and_then}
use Rattle.cil_model.specs.Assignable.{is_assignable}
use Rattle.object_memory.specs.declared.addresses.Addr.{Addr}
use Rattle.object_memory.specs.declared.values.Value.TheVariants.{Ref}
use Rattle.object_memory.specs.Objects.{Objects}
use Rattle.instructions.specs.TypeTransitions.{type_of_address, may_be_used_as}
use Rattle.flow_rules.specs.StackTypes.{class_named, element_named, is_known}
use Rattle.cil_model.proofs.Lists.{none_is_some}

module _ (tree : Tree) where
  named_at : (o : Option ClassName) → is_some o ≡ true → o ≡ Some (option_map_or (λ (c : ClassName). c) o object_name)
  named_at None known = absurd cc
  named_at (Some c) known = refl

  element_there : (r : ResolvedElement) → is_known tree r ≡ true → element_at tree r ≡ Some (element_named tree r)
  element_there (Class n) known = ap (option_map _) (named_at (class_name tree n) known)
  element_there _ known = refl

  -- the type of the objects of a class, by an element that represents it
  pub class_type : (n : ℕ) (r : ResolvedElement) (t : DeclaredType) → (is_some (class_name tree n) ≡ true → element_named tree r ≡ element_of_class (class_named tree n)) → (is_some (class_name tree n) ≡ true → is_known tree r ≡ true)
      → option_map type_of_class (class_name tree n) ≡ Some t → type_at tree (record { element = r; brackets = 0 }) ≡ Some t
  class_type n r t named known e = by_name (class_name tree n) refl e
    where
      by_name : (o : Option ClassName) → class_name tree n ≡ o → option_map type_of_class o ≡ Some t → type_at tree (record { element = r; brackets = 0 }) ≡ Some t
      by_name None at h = none_is_some t h
      by_name (Some c) at h =
          let is : is_some (class_name tree n) ≡ true = ap is_some at in
          let class : class_named tree n ≡ c = ap (λ (o : Option ClassName). option_map_or (λ (x : ClassName). x) o object_name) at in
          let element : element_at tree r ≡ Some (element_of_class c) = element_there r (known is) ∙ ap Some (named is ∙ ap element_of_class class) in
          ap (option_map (λ (x : Element). record { element = x; brackets = 0 })) element ∙ h

-- ---- what may stand where

-- the types that decide whether a reference may stand
pub record Deciding (tree : Tree) (o : Objects) (a : Addr) (to : ResolvedType) : Type 0 where
  pub required : DeclaredType
  pub own : DeclaredType
  pub required_is : type_at tree to ≡ Some required
  pub own_is : type_of_address tree o a ≡ Some own
  pub decided : may_be_used_as tree o (Ref a) to ≡ Some (is_assignable tree own required)

pub deciding : (tree : Tree) (o : Objects) (a : Addr) (to : ResolvedType) → (a.number == 0) ≡ false → IsSome (may_be_used_as tree o (Ref a) to) → Deciding tree o a to
deciding tree o a to apart there = by_types (type_at tree to) refl (type_of_address tree o a) refl there
  where
    decides : Option DeclaredType → Option DeclaredType → Option Bool
    decides to own = option_and_then (λ t. if a.number == 0 then Some true else option_map (λ x. is_assignable tree x t) own) to

    by_types : (t : Option DeclaredType) → type_at tree to ≡ t → (own : Option DeclaredType) → type_of_address tree o a ≡ own → IsSome (may_be_used_as tree o (Ref a) to) → Deciding tree o a to
    by_types None e own f h = absurd (cc (ap is_some (ap (λ x. decides x (type_of_address tree o a)) e), h))
    by_types (Some t) e None f h =
        let none : may_be_used_as tree o (Ref a) to ≡ None =
        ap (λ x. decides x (type_of_address tree o a)) e ∙ ap (decides (Some t)) f ∙ ap (λ (b : Bool). if b then Some true else None) apart in
        absurd (cc (ap is_some none, h))
    by_types (Some t) e (Some own) f h = record {
      required = t;
      own = own;
      required_is = e;
      own_is = f;
      decided = ap (λ x. decides x (type_of_address tree o a)) e ∙ ap (decides (Some t)) f ∙ ap (λ (b : Bool). if b then Some true else Some (is_assignable tree own t)) apart;
    }

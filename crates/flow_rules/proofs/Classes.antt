-- Classes by their numbers in a legal tree.
use Rattle.std.proofs.Common.{◌≡◌, ◌≤◌, ◌<◌, ◌+◌, ℕ, zero, suc, true, is_some, List, [], ◌∷◌, map, length, Option, Some, None, option_map, option_and_then, slice_get, refl, sym, ap, subst, ◌∙◌, arith}
use Rattle.std.proofs.lemmas.List.{length-map}
use Rattle.std.specs.Prelude.{IfSome}
use Rattle.std.specs.Option.{option_map_or}
use Rattle.std.proofs.lemmas.Option.{same_Some, slice_get_past}
use Rattle.cil_model.specs.declared.types.ClassName.{ClassName}
use Rattle.cil_model.specs.declared.types.Element.{Element}
use Rattle.cil_model.specs.declared.types.Element.TheVariants as Named
use Rattle.cil_model.specs.declared.types.DeclaredType.{DeclaredType}
use Rattle.cil_model.specs.declared.trees.Tree.{Tree}
use Rattle.cil_model.specs.declared.trees.Class.{Class as SourceClass}
use Rattle.cil_model.specs.Declarations.{source_name, Declaration, declaration_of, object_name, console_name, monitor_name, thread_name}
use Rattle.cil_model.specs.Chains.{base_of}
use Rattle.cil_model.specs.Assignable.{element_of_class}
use Rattle.cil_model.specs.TypeTree.{parent_element}
use Rattle.cil_model.specs.Legality.{IsLegal}
use Rattle.cil_model.proofs.Lists.{none_is_some}
use Rattle.name_tables.specs.Numbers.{declarations, class_number, source_entry}
use Rattle.name_tables.proofs.NumberLaws.{HasId, has_id}
use Rattle.resolved_code.proofs.Numbers.Classes.{number_of_index}
use Rattle.resolved_code.specs.ById.{class_name}
use Rattle.resolved_code.specs.ResolvedPrograms.{AreResolved, IsResolvedClass}
use Rattle.resolved_code.proofs.ListLaws.RelatedLists.{AlikeTo, alike_to, alike_beyond, alike_length}
use Rattle.resolved_code.specs.declared.classes.ResolvedClass.{ResolvedClass}
use Rattle.resolved_code.specs.declared.types.ResolvedElement.{ResolvedElement}
use Rattle.resolved_code.specs.declared.types.ResolvedElement.TheVariants.{Int32, Int64, Object, String, Class}
use Rattle.resolved_code.specs.declared.types.ResolvedType.{ResolvedType}
use Rattle.flow_rules.specs.StackTypes.{class_named, element_named, type_named, is_known}
use Rattle.flow_rules.specs.Merging.{IsClassAt}

pub if_some_then : {T : Type 0} (o : Option T) (P Q : T → Type 0) → ((v : T) → P v → Q v) → IfSome o P → IfSome o Q
if_some_then None P Q f h = h
if_some_then (Some v) P Q f h = f v h

class_in : Element → ClassName
class_in (Named.Class c) = c
class_in _ = object_name

module _ (tree : Tree) where
  module _ (legal : IsLegal tree) where
    -- a class's name is found at its own number
    pub own_number : (n : ℕ) (c : ClassName) → class_name tree n ≡ Some c → class_number tree c ≡ Some n
    own_number n c e = by_entry (slice_get (declarations tree) n) refl e
      where
        by_entry : (o : Option (ClassName × Declaration)) → slice_get (declarations tree) n ≡ o → option_map (λ (x : ClassName × Declaration). x.0) o ≡ Some c → class_number tree c ≡ Some n
        by_entry None at h = none_is_some c h
        by_entry (Some x) at h =
            let named : x.0 ≡ c = cc in
            subst (λ (d : ClassName). class_number tree d ≡ Some n) named (number_of_index tree legal n x at)

    -- two numbers with one name are one
    pub one_number : (n m : ℕ) (c : ClassName) → class_name tree n ≡ Some c → class_name tree m ≡ Some c → n ≡ m
    one_number n m c e f = let h : Some n ≡ Some m = sym (own_number n c e) ∙ own_number m c f in cc

    -- what is at a class's number is what its name declares
    pub own_declaration : (n : ℕ) (c : ClassName) (d : Declaration) → slice_get (declarations tree) n ≡ Some (c, d) → declaration_of tree c ≡ Some d
    own_declaration n c d e =
        let number : class_number tree c ≡ Some n = own_number n c (ap (option_map (λ (x : ClassName × Declaration). x.0)) e) in
        let found : (d' : Declaration) × (declaration_of tree c ≡ Some d') × (slice_get (declarations tree) n ≡ Some (c, d')) = subst (HasId tree c) number (has_id tree c) in
        let pairs : (c, found.0) ≡ (c, d) = same_Some (c, found.0) (c, d) (sym found.2 ∙ e) in
        found.1 ∙ ap (λ (x : ClassName × Declaration). Some x.1) pairs

    -- what is at a class's number, where the classes are resolved
    pub class_at : (classes : List ResolvedClass) → AreResolved tree classes → (n : ℕ) (k : ResolvedClass) → slice_get classes n ≡ Some k →
        (c : ClassName) × (d : Declaration) × (slice_get (declarations tree) n ≡ Some (c, d)) × IsResolvedClass tree d k
    class_at classes alike n k e =
        let found : AlikeTo (λ (x : ClassName × Declaration) (r : ResolvedClass). IsResolvedClass tree x.1 r) (declarations tree) n k = alike_to (λ (x : ClassName × Declaration) (r : ResolvedClass). IsResolvedClass tree x.1 r) (declarations tree) classes n k alike e in
        (found.item.0, found.item.1, found.there, found.alike)

  -- the number of resolved classes is that of the declarations
  pub class_count : (classes : List ResolvedClass) → AreResolved tree classes → length classes ≡ length tree.classes + 5
  class_count classes alike =
      let all : length (declarations tree) ≡ length classes = alike_length (λ (x : ClassName × Declaration) r. IsResolvedClass tree x.1 r) (declarations tree) classes alike in
      let source : length (map source_entry tree.classes) ≡ length tree.classes = length-map tree.classes source_entry in
      omega (arith, all, source)

  -- beyond the last class there is no name
  pub beyond_classes : (classes : List ResolvedClass) → AreResolved tree classes → (n : ℕ) → slice_get classes n ≡ None → class_name tree n ≡ None
  beyond_classes classes alike n e = ap (option_map (λ (x : ClassName × Declaration). x.0)) (alike_beyond (λ (x : ClassName × Declaration) r. IsResolvedClass tree x.1 r) (declarations tree) classes alike n e)

  -- up to the last class there is one
  pub up_to_classes : (classes : List ResolvedClass) → AreResolved tree classes → (n : ℕ) → n < length classes → is_some (class_name tree n) ≡ true
  up_to_classes classes alike n h =
      let all : length (declarations tree) ≡ length classes = alike_length (λ (x : ClassName × Declaration) r. IsResolvedClass tree x.1 r) (declarations tree) classes alike in
      present (declarations tree) n (omega (arith, all, h))
    where
      present : (es : List (ClassName × Declaration)) (m : ℕ) → m < length es → is_some (option_map (λ (x : ClassName × Declaration). x.0) (slice_get es m)) ≡ true
      present [] m k = absurd (omega (arith, k))
      present (x ∷ es) zero k = refl
      present (x ∷ es) (suc m) k = present es m (omega (arith, k))

  pub unnamed : (n : ℕ) → class_name tree n ≡ None → class_named tree n ≡ object_name
  unnamed n e = ap (λ (o : Option ClassName). option_map_or (λ (x : ClassName). x) o object_name) e

  pub past_classes : (classes : List ResolvedClass) → AreResolved tree classes → (n : ℕ) → length classes ≤ n → class_named tree 0 ≡ class_named tree n
  past_classes classes alike n h = sym (unnamed n (beyond_classes classes alike n (slice_get_past classes n h)))

  -- ---- the type of a class's objects

  number_of_type : (n : ℕ) (c : ClassName) → 1 < n → class_name tree n ≡ Some c → element_of_class c ≡ Named.Class c
  number_of_type (suc (suc zero)) c h e = subst (λ (d : ClassName). element_of_class d ≡ Named.Class d) (same_Some console_name c e) refl
  number_of_type (suc (suc (suc zero))) c h e = subst (λ (d : ClassName). element_of_class d ≡ Named.Class d) (same_Some monitor_name c e) refl
  number_of_type (suc (suc (suc (suc zero)))) c h e = subst (λ (d : ClassName). element_of_class d ≡ Named.Class d) (same_Some thread_name c e) refl
  number_of_type (suc (suc (suc (suc (suc n))))) c h e = source_type tree.classes n e
    where
      source_type : (cs : List SourceClass) (m : ℕ) → option_map (λ (x : ClassName × Declaration). x.0) (slice_get (map source_entry cs) m) ≡ Some c → element_of_class c ≡ Named.Class c
      source_type [] m f = none_is_some c f
      source_type (k ∷ cs) zero f = subst (λ (d : ClassName). element_of_class d ≡ Named.Class d) (same_Some (source_name k) c f) refl
      source_type (k ∷ cs) (suc m) f = source_type cs m f
  number_of_type _ c h e = absurd (omega (arith, h))

  pub element_at_number : (n : ℕ) (c : ClassName) → class_name tree n ≡ Some c → class_named tree n ≡ c
  element_at_number n c e = ap (λ (o : Option ClassName). option_map_or (λ (x : ClassName). x) o object_name) e

  pub objects_of : (n : ℕ) (c : ClassName) → 1 < n → class_name tree n ≡ Some c → Named.Class (class_named tree n) ≡ element_of_class (class_named tree n)
  objects_of n c h e = let P : ClassName → Type 0 = λ x. Named.Class x ≡ element_of_class x in subst P (sym (element_at_number n c e)) (sym (number_of_type n c h e))

  pub objects_known : (n : ℕ) → 1 < n → is_some (class_name tree n) ≡ true → Named.Class (class_named tree n) ≡ element_of_class (class_named tree n)
  objects_known n h known = by_name (class_name tree n) refl known
    where
      by_name : (o : Option ClassName) → class_name tree n ≡ o → is_some o ≡ true → Named.Class (class_named tree n) ≡ element_of_class (class_named tree n)
      by_name None e k = absurd (cc k)
      by_name (Some c) e k = objects_of n c h e

  -- ---- bases

  -- the base by its number is the base by its name
  pub base_at : IsLegal tree → (n : ℕ) (k : ResolvedClass) → IsClassAt tree n k → option_map (class_name tree) k.base ≡ option_map Some (base_of tree (class_named tree n))
  base_at legal n k (c, d, at, alike) =
      let name : class_name tree n ≡ Some c = ap (option_map (λ (x : ClassName × Declaration). x.0)) at in
      let base : base_of tree (class_named tree n) ≡ d.base = ap (base_of tree) (element_at_number n c name) ∙ ap (option_and_then (λ (x : Declaration). x.base)) (own_declaration legal n c d at) in
      alike.base ∙ ap (option_map Some) (sym base)

  -- the parent of a class that has none
  pub base_missing : (o : Option ℕ) (b : Option ClassName) → option_map (class_name tree) o ≡ option_map Some b → o ≡ None → Named.Object ≡ parent_element b
  base_missing o None h e = refl
  base_missing o (Some b) h e = none_is_some (Some b) (sym (ap (option_map (class_name tree)) e) ∙ h)

  base_present : (m : ℕ) (b : Option ClassName) → Some (class_name tree m) ≡ option_map Some b → (c : ClassName) × (b ≡ Some c) × (class_name tree m ≡ Some c)
  base_present m None h = none_is_some (class_name tree m) (sym h)
  base_present m (Some c) h = (c, refl, same_Some (class_name tree m) (Some c) h)

  pub base_known : (o : Option ℕ) (m : ℕ) (b : Option ClassName) → option_map (class_name tree) o ≡ option_map Some b → o ≡ Some m → is_some (class_name tree m) ≡ true
  base_known o m b h e = let f : (c : ClassName) × (b ≡ Some c) × (class_name tree m ≡ Some c) = base_present m b (sym (ap (option_map (class_name tree)) e) ∙ h) in ap is_some f.2

  pub base_named : (o : Option ℕ) (m : ℕ) (b : Option ClassName) → option_map (class_name tree) o ≡ option_map Some b → o ≡ Some m → element_of_class (class_named tree m) ≡ parent_element b
  base_named o m b h e =
      let f : (c : ClassName) × (b ≡ Some c) × (class_name tree m ≡ Some c) = base_present m b (sym (ap (option_map (class_name tree)) e) ∙ h) in
      ap element_of_class (element_at_number m f.0 f.2) ∙ ap parent_element (sym f.1)

  -- ---- a type has one number

  pub one_element : IsLegal tree → (a b : ResolvedElement) → is_known tree a ≡ true → is_known tree b ≡ true → element_named tree a ≡ element_named tree b → a ≡ b
  unfolding class_in
  one_element legal Int32 Int32 k l e = refl
  one_element legal Int64 Int64 k l e = refl
  one_element legal Object Object k l e = refl
  one_element legal String String k l e = refl
  one_element legal (Class m) (Class n) k l e = by_names (class_name tree m) (class_name tree n) refl refl k l
    where
      by_names : (o p : Option ClassName) → class_name tree m ≡ o → class_name tree n ≡ p → is_some o ≡ true → is_some p ≡ true → Class m ≡ Class n
      by_names None p f g k' l' = absurd (cc k')
      by_names (Some c) None f g k' l' = absurd (cc l')
      by_names (Some c) (Some d) f g k' l' =
          let names : class_named tree m ≡ class_named tree n = ap class_in e in
          let same : c ≡ d = sym (element_at_number m c f) ∙ names ∙ element_at_number n d g in
          ap Class (one_number legal m n c f (g ∙ ap Some (sym same)))
  one_element legal _ _ k l e = absurd (cc e)

  pub one_type : IsLegal tree → (a b : ResolvedType) → is_known tree a.element ≡ true → is_known tree b.element ≡ true → type_named tree a ≡ type_named tree b → a ≡ b
  one_type legal a b k l e = λ i. record {
    element = one_element legal a.element b.element k l (ap (λ (t : DeclaredType). t.element) e) i;
    brackets = ap (λ (t : DeclaredType). t.brackets) e i;
  }

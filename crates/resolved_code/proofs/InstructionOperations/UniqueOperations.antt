-- In a legal tree an instruction has one operation: names, members, literals and labels have one number each.
use Rattle.std.proofs.Common.{◌≡◌, ◌||◌, ℕ, zero, suc, Bool, true, false, IsTrue, not, cond, List, [], ◌∷◌, map, filter, Option, Some, None, option_map, option_and_then, slice_get, refl, sym, ap, ◌∙◌, subst}
use Rattle.std.proofs.lemmas.Bool.{and_from, or_from, or_parts}
use Rattle.std.proofs.lemmas.Option.{same_Some}
use Rattle.std.specs.List.{filter_map, list_any, position_from}
use Rattle.cil_model.specs.declared.types.ClassName.{ClassName}
use Rattle.cil_model.specs.declared.types.DeclaredType.{DeclaredType}
use Rattle.cil_model.specs.declared.types.Element.{Element}
use Rattle.cil_model.specs.declared.types.Element.TheVariants as Types
use Rattle.cil_model.specs.declared.instructions.FieldReference.{FieldReference}
use Rattle.cil_model.specs.declared.instructions.Instruction.{Instruction}
use Rattle.cil_model.specs.declared.instructions.MethodReference.{MethodReference}
use Rattle.cil_model.specs.declared.trees.Tree.{Tree}
use Rattle.cil_model.specs.declared.trees.Class.{Class}
use Rattle.cil_model.specs.declared.trees.ClassKind.{ClassKind}
use Rattle.cil_model.specs.declared.trees.ClassKind.TheVariants.{Interface, Class as PlainClass}
use Rattle.cil_model.specs.declared.trees.Field.{Field}
use Rattle.cil_model.specs.declared.trees.Line.{Line}
use Rattle.cil_model.specs.Bodies.{constructor_reference, virtual_reference}
use Rattle.cil_model.specs.Chains.{find_field, find_method}
use Rattle.cil_model.specs.Declarations.{Declaration, field_members, fields_unless_interface}
use Rattle.cil_model.specs.Legality.{IsLegal, class_doubles, doubles_name, has_repeat, same_method}
use Rattle.cil_model.specs.Mentions.{each_once, instructions_of_tree, literal_of, literals_of}
use Rattle.cil_model.specs.Same.{same_text}
use Rattle.cil_model.proofs.Legal.{unbroken}
use Rattle.cil_model.proofs.Lists.{none_is_some, once_kept, passes_not}
use Rattle.cil_model.proofs.SameLaws.{never, same_method_name_itself, same_signature_itself, same_text_itself, text_equivalence}
use Rattle.name_tables.specs.Numbers.{class_number, declarations, field_number, member_at, method_number, source_entry}
use Rattle.name_tables.specs.declared.ids.FieldId.{FieldId}
use Rattle.name_tables.specs.declared.ids.MethodId.{MethodId}
use Rattle.name_tables.proofs.NumberLaws.{field_has_id, method_has_id}
use Rattle.resolved_code.specs.ById.{class_name, element_at, type_at}
use Rattle.resolved_code.specs.ResolvedPrograms.{IsField, IsMethod, IsOperation}
use Rattle.resolved_code.specs.Rules.{all_some, element_rule, field_id, field_rule, method_id, method_rule, operation_rule, type_rule, with_owner}
use Rattle.resolved_code.specs.declared.operations.Operation.{Operation}
use Rattle.resolved_code.specs.declared.operations.Operation.TheVariants as Resolved
use Rattle.resolved_code.specs.declared.types.ResolvedElement.{ResolvedElement}
use Rattle.resolved_code.specs.declared.types.ResolvedElement.TheVariants.{Int32, Int64, Object, String, Class as ClassById}
use Rattle.resolved_code.specs.declared.types.ResolvedType.{ResolvedType}
use Rattle.resolved_code.proofs.Numbers.Classes.{first_index, number_of_index}

-- ---- lists

-- an item of a list without a repeat is at one index
indices_once : {X : Type 0} (same : X → X → Bool) → ((x : X) → IsTrue (same x x)) → (xs : List X) (n m : ℕ) (x : X) → has_repeat same xs ≡ false → slice_get xs n ≡ Some x → slice_get xs m ≡ Some x → n ≡ m
indices_once same itself [] n m x h e f = none_is_some x e
indices_once same itself (y ∷ ys) zero zero x h e f = refl
indices_once same itself (y ∷ ys) zero (suc m) x h e f =
    let s : y ≡ x = same_Some y x e in
    never (sym (passes_not (same y) ys m x (or_parts _ _ h).0 f) ∙ (ap (λ z. same z x) s ∙ itself x))
indices_once same itself (y ∷ ys) (suc n) zero x h e f =
    let s : y ≡ x = same_Some y x f in
    never (sym (passes_not (same y) ys n x (or_parts _ _ h).0 e) ∙ (ap (λ z. same z x) s ∙ itself x))
indices_once same itself (y ∷ ys) (suc n) (suc m) x h e f = ap suc (indices_once same itself ys n m x (or_parts _ _ h).1 e f)

all_there : {Y : Type 0} (ys : List Y) → all_some (map Some ys) ≡ Some ys
all_there [] = refl
all_there {Y} (y ∷ ys) = ap (option_map {U = List Y} (λ zs. y ∷ zs)) (all_there ys)

-- a list whose equal items occur once has no repeat
none_left : {X : Type 0} (test : X → Bool) (xs : List X) → list_any test (filter (λ y. not (test y)) xs) ≡ false
none_left test [] = refl
none_left {X} test (x ∷ xs) = by_test (test x) refl (none_left test xs)
  where
    by_test : (b : Bool) → test x ≡ b → list_any test (filter (λ y. not (test y)) xs) ≡ false → list_any test (cond (not b) (x ∷ filter (λ y. not (test y)) xs) (filter (λ y. not (test y)) xs)) ≡ false
    by_test true is rest = rest
    by_test false is rest = or_from _ _ is rest

each_occurs_once : {X : Type 0} (same : X → X → Bool) (xs : List X) → has_repeat same (each_once same xs) ≡ false
each_occurs_once same [] = refl
each_occurs_once same (x ∷ xs) =
    or_from _ _ (none_left (same x) (each_once same xs)) (once_kept same (λ y. not (same x y)) (each_once same xs) (each_occurs_once same xs))

module _ (tree : Tree) (legal : IsLegal tree) where
  -- ---- classes and types

  number_is : (n : ℕ) (c : ClassName) → class_name tree n ≡ Some c → class_number tree c ≡ Some n
  number_is n c e = by_entry (slice_get (declarations tree) n) refl e
    where
      by_entry : (o : Option (ClassName × Declaration)) → slice_get (declarations tree) n ≡ o → option_map (λ (x : ClassName × Declaration). x.0) o ≡ Some c → class_number tree c ≡ Some n
      by_entry None is h = none_is_some c h
      by_entry (Some x) is h = subst (λ d. class_number tree d ≡ Some n) (same_Some x.0 c h) (number_of_index tree legal n x is)

  element_is : (x : ResolvedElement) (e : Element) → element_at tree x ≡ Some e → element_rule tree e ≡ Some x
  element_is Int32 e h = sym (ap (element_rule tree) (same_Some Types.Int32 e h))
  element_is Int64 e h = sym (ap (element_rule tree) (same_Some Types.Int64 e h))
  element_is Object e h = sym (ap (element_rule tree) (same_Some Types.Object e h))
  element_is String e h = sym (ap (element_rule tree) (same_Some Types.String e h))
  element_is (ClassById n) e h = by_name (class_name tree n) refl h
    where
      by_name : (o : Option ClassName) → class_name tree n ≡ o → option_map Types.Class o ≡ Some e → element_rule tree e ≡ Some (ClassById n)
      by_name None is k = none_is_some e k
      by_name (Some c) is k = sym (ap (element_rule tree) (same_Some (Types.Class c) e k)) ∙ ap (option_map ClassById) (number_is n c is)

  type_is : (n : ResolvedType) (t : DeclaredType) → type_at tree n ≡ Some t → type_rule tree t ≡ Some n
  type_is n t h = by_element (element_at tree n.element) refl h
    where
      by_element : (o : Option Element) → element_at tree n.element ≡ o → option_map {U = DeclaredType} (λ e. record { element = e; brackets = n.brackets }) o ≡ Some t → type_rule tree t ≡ Some n
      by_element None is k = none_is_some t k
      by_element (Some e) is k =
          subst (λ u. type_rule tree u ≡ Some n) (same_Some (record { element = e; brackets = n.brackets }) t k)
          (ap (option_map {U = ResolvedType} (λ x. record { element = x; brackets = n.brackets })) (element_is n.element e is))

  -- ---- members

  -- the declaration that has a member at a number
  record IsMember {X : Type 0} (part : Declaration → List X) (number : ℕ × ℕ) (x : ClassName × X) : Type 0 where
    pub declaration : Declaration
    pub entry : slice_get (declarations tree) number.0 ≡ Some (x.0, declaration)
    pub there : slice_get (part declaration) number.1 ≡ Some x.1

  module _ {X : Type 0} (part : Declaration → List X) where
    member_is : (number : ℕ × ℕ) (x : ClassName × X) → member_at part tree number ≡ Some x → IsMember part number x
    member_is number x e = by_entry (slice_get (declarations tree) number.0) refl e
      where
        by_member : (y : ClassName × Declaration) → slice_get (declarations tree) number.0 ≡ Some y → (o : Option X) → slice_get (part y.1) number.1 ≡ o → option_map {U = ClassName × X} (λ z. (y.0, z)) o ≡ Some x → IsMember part number x
        by_member y is None at h = none_is_some x h
        by_member y is (Some z) at h =
            let same : (y.0, z) ≡ x = same_Some (y.0, z) x h in
            record { declaration = y.1; entry = is ∙ ap (λ (c : ClassName). Some (c, y.1)) (ap (λ (w : ClassName × X). w.0) same); there = at ∙ ap Some (ap (λ (w : ClassName × X). w.1) same) }

        by_entry : (o : Option (ClassName × Declaration)) → slice_get (declarations tree) number.0 ≡ o
            → option_and_then {U = ClassName × X} (λ (y : ClassName × Declaration). option_map (λ z. (y.0, z)) (slice_get (part y.1) number.1)) o ≡ Some x → IsMember part number x
        by_entry None is h = none_is_some x h
        by_entry (Some y) is h = by_member y is (slice_get (part y.1) number.1) refl h

    module _ (same : X → X → Bool) (itself : (x : X) → IsTrue (same x x)) (once : (n : ℕ) (e : ClassName × Declaration) → slice_get (declarations tree) n ≡ Some e → has_repeat same (part e.1) ≡ false) where
      member_once : (p q : ℕ × ℕ) (x : ClassName × X) → member_at part tree p ≡ Some x → member_at part tree q ≡ Some x → p ≡ q
      member_once p q x e f =
          let m = member_is p x e in
          let k = member_is q x f in
          let classes : p.0 ≡ q.0 = same_Some p.0 q.0 (sym (number_of_index tree legal p.0 (x.0, m.declaration) m.entry) ∙ number_of_index tree legal q.0 (x.0, k.declaration) k.entry) in
          let entries : (x.0, m.declaration) ≡ (x.0, k.declaration) = same_Some _ _ (sym m.entry ∙ (ap (slice_get (declarations tree)) classes ∙ k.entry)) in
          let other : slice_get (part m.declaration) q.1 ≡ Some x.1 = ap (λ (y : ClassName × Declaration). slice_get (part y.1) q.1) entries ∙ k.there in
          let indices : p.1 ≡ q.1 = indices_once same itself (part m.declaration) p.1 q.1 x.1 (once p.0 (x.0, m.declaration) m.entry) m.there other in
          ap (λ (n : ℕ). (n, p.1)) classes ∙ ap (λ (n : ℕ). (q.0, n)) indices

      -- what is found has the number of its index
      found_is : {M : Type 0} (make : ℕ × ℕ → M) (o : Option (ℕ × ℕ)) (found : Option (ClassName × X)) → option_map (member_at part tree) o ≡ option_map Some found
          → (x : ClassName × X) → found ≡ Some x → (q : ℕ × ℕ) → member_at part tree q ≡ Some x → option_map make o ≡ Some (make q)
      found_is make None found alike x is q e = none_is_some (Some x) (alike ∙ ap (option_map Some) is)
      found_is make (Some p) found alike x is q e = ap (λ (y : ℕ × ℕ). Some (make y)) (member_once p q x (same_Some _ _ (alike ∙ ap (option_map Some) is)) e)

  abbrev same_name : Field → Field → Bool
  same_name a b = same_text a.name b.name

  -- two fields of a name, or two methods of a name and signature
  abbrev duplicates : ClassName × Declaration → Bool
  duplicates e = has_repeat same_name e.1.fields || has_repeat same_method e.1.methods

  source_once : (cs : List Class) → list_any class_doubles cs ≡ false → list_any duplicates (map source_entry cs) ≡ false
  source_once [] h = refl
  source_once (c ∷ cs) h =
      let members = (or_parts _ _ (or_parts _ _ (or_parts _ _ h).0).0).0 in
      or_from _ _ (or_from _ _ (by_kind c.kind (or_parts _ _ members).0) (or_parts _ _ members).1) (source_once cs (or_parts _ _ h).1)
    where
      by_kind : (kind : ClassKind) → has_repeat same_name (field_members c) ≡ false → has_repeat same_name (fields_unless_interface kind (field_members c)) ≡ false
      by_kind Interface k = refl
      by_kind (PlainClass is_abstract base interfaces) k = k

  all_once : list_any duplicates (declarations tree) ≡ false
  all_once = let h : doubles_name tree ≡ false = (unbroken _ 201 _ legal).0 in source_once tree.classes (or_parts _ _ h).1

  field_is : (is_static : Bool) (r : FieldReference) (m : FieldId) → IsField tree is_static r m → field_rule tree is_static r ≡ Some m
  field_is is_static r m f =
      found_is (λ d. d.fields) same_name (λ x. same_text_itself x.name) (λ n e there. (or_parts _ _ (passes_not duplicates (declarations tree) n e all_once there)).0)
      field_id (field_number tree is_static r) (find_field tree is_static r) (field_has_id tree is_static r) (f.declared_in, f.found) f.finds (m.class, m.index) f.has_id

  method_is : (is_instance : Bool) (r : MethodReference) (m : MethodId) → IsMethod tree is_instance r m → method_rule tree is_instance r ≡ Some m
  method_is is_instance r m f =
      found_is (λ d. d.methods) same_method (λ x. and_from _ _ (same_method_name_itself x.name) (same_signature_itself x.signature)) (λ n e there. (or_parts _ _ (passes_not duplicates (declarations tree) n e all_once there)).1)
      method_id (method_number tree is_instance r) (find_method tree is_instance r) (method_has_id tree is_instance r) (f.declared_in, f.found) f.finds (m.class, m.index) f.has_id

  with_owner_is : {M : Type 0} (c : ClassName) (make : ℕ → M → Operation) (o : Option M) (owner : ℕ) (m : M) → class_name tree owner ≡ Some c → o ≡ Some m → with_owner tree c make o ≡ Some (make owner m)
  with_owner_is c make o owner m named is =
      ap (option_and_then {U = Operation} (λ (n : ℕ). option_map (make n) o)) (number_is owner c named) ∙ ap (option_map (make owner)) is

  -- ---- instructions

  literal_is : (s : List ℕ) (n : ℕ) → slice_get (literals_of tree) n ≡ Some s → position_from (same_text s) 0 (literals_of tree) ≡ Some n
  literal_is s n there = first_index same_text same_text_itself text_equivalence.symm (literals_of tree) n s (each_occurs_once same_text (filter_map literal_of (instructions_of_tree tree))) there

  module _ (lines : List Line) where
    operation_is : (i : Instruction) (o : Operation) → IsOperation tree lines i o → operation_rule tree lines i ≡ Some o
    operation_is _ _ (IsOperation.load_string s n there) = ap (option_map Resolved.LoadString) (literal_is s n there)
    operation_is _ _ (IsOperation.branch condition label index is) = ap (option_map (Resolved.Branch condition)) is
    operation_is _ _ (IsOperation.switch labels indices are) = ap (option_map Resolved.Switch) (ap all_some are ∙ all_there indices)
    operation_is _ _ (IsOperation.load_field r owner field named f) = with_owner_is r.owner Resolved.LoadField (field_rule tree false r) owner field named (field_is false r field f)
    operation_is _ _ (IsOperation.store_field r owner field named f) = with_owner_is r.owner Resolved.StoreField (field_rule tree false r) owner field named (field_is false r field f)
    operation_is _ _ (IsOperation.load_static_field r field f) = ap (option_map Resolved.LoadStaticField) (field_is true r field f)
    operation_is _ _ (IsOperation.store_static_field r field f) = ap (option_map Resolved.StoreStaticField) (field_is true r field f)
    operation_is _ _ (IsOperation.new_array t n is) = ap (option_map Resolved.NewArray) (type_is n t is)
    operation_is _ _ (IsOperation.cast_class t n is) = ap (option_map Resolved.CastClass) (type_is n t is)
    operation_is _ _ (IsOperation.is_instance t n is) = ap (option_map Resolved.IsInstance) (type_is n t is)
    operation_is _ _ (IsOperation.call is_instance r owner method named f) = with_owner_is r.owner (Resolved.Call is_instance) (method_rule tree is_instance r) owner method named (method_is is_instance r method f)
    operation_is _ _ (IsOperation.call_virtual c name signature owner method named f) =
        with_owner_is c Resolved.CallVirtual (method_rule tree true (virtual_reference c name signature)) owner method named (method_is true (virtual_reference c name signature) method f)
    operation_is _ _ (IsOperation.new_object c parameters constructor_number f) = ap (option_map Resolved.NewObject) (method_is true (constructor_reference c parameters) constructor_number f)
    operation_is _ _ _ = refl

    pub one_operation : (i : Instruction) (o p : Operation) → IsOperation tree lines i o → IsOperation tree lines i p → o ≡ p
    one_operation i o p h k = same_Some o p (sym (operation_is i o h) ∙ operation_is i p k)

-- What a reference finds, by its number.
use Rattle.std.proofs.Common.{◌≡◌, ℕ, Bool, true, false, ◌&&◌, not, IsTrue, List, [], ◌∷◌, Option, Some, None, option_map, option_and_then, slice_get, refl, sym, ap, ◌∙◌}
use Rattle.std.specs.Prelude.{find}
use Rattle.std.specs.Option.{option_map_or}
use Rattle.std.proofs.lemmas.Option.{same_Some}
use Rattle.cil_model.specs.declared.types.ClassName.{ClassName}
use Rattle.cil_model.specs.declared.types.DeclaredType.{DeclaredType}
use Rattle.cil_model.specs.declared.trees.Tree.{Tree}
use Rattle.cil_model.specs.declared.trees.Field.{Field}
use Rattle.cil_model.specs.declared.trees.Method.{Method}
use Rattle.cil_model.specs.declared.instructions.FieldReference.{FieldReference}
use Rattle.cil_model.specs.declared.instructions.MethodReference.{MethodReference}
use Rattle.cil_model.specs.Same.{same_text, same_type, same_flag, same_method_name, same_signature}
use Rattle.cil_model.specs.Chains.{nearest, fields_declared, methods_declared, chain_of, classes_searched, find_field, find_method, is_static}
use Rattle.cil_model.specs.Declarations.{Declaration}
use Rattle.cil_model.proofs.Lists.{none_is_some, find_passes}
use Rattle.cil_model.proofs.SameLaws.{both_first, both_second, same_type_equal, same_signature_equal}
use Rattle.name_tables.specs.Numbers.{declarations, member_at, method_at}
use Rattle.resolved_code.specs.ById.{class_name, type_at}
use Rattle.resolved_code.specs.declared.types.ResolvedType.{ResolvedType}
use Rattle.flow_rules.specs.StackTypes.{type_named}
use Rattle.flow_rules.specs.Merging.{IsClassAt}
use Rattle.cil_model.specs.declared.types.Signature.{Signature}
use Rattle.cil_model.specs.declared.trees.MethodKind.{MethodKind}
use Rattle.cil_model.specs.declared.trees.MethodKind.TheVariants as NamedKind
use Rattle.cil_model.specs.declared.instructions.MethodName.TheVariants.{Constructor}
use Rattle.cil_model.specs.Bodies.{constructor_reference}
use Rattle.cil_model.specs.Chains.{is_abstract_method}
use Rattle.cil_model.specs.FlowRules.{is_concrete}
use Rattle.cil_model.specs.Declarations.{declaration_of}
use Rattle.cil_model.specs.Legality.{IsLegal}
use Rattle.name_tables.specs.declared.ids.FieldId.{FieldId}
use Rattle.name_tables.specs.declared.ids.MethodId.{MethodId}
use Rattle.resolved_code.specs.ResolvedPrograms.{IsField, IsMethod, IsResolvedField, IsResolvedKind, IsResolvedMethod}
use Rattle.resolved_code.specs.declared.classes.ResolvedField.{ResolvedField}
use Rattle.resolved_code.specs.declared.classes.ResolvedKind.{ResolvedKind}
use Rattle.resolved_code.specs.declared.classes.ResolvedKind.TheVariants as KindOf
use Rattle.resolved_code.specs.declared.classes.ResolvedMethod.{ResolvedMethod}
use Rattle.resolved_code.specs.declared.classes.ResolvedClass.{ResolvedClass}
use Rattle.flow_rules.specs.Members.{IsCallable, is_abstract_kind}
use Rattle.resolved_code.proofs.ListLaws.RelatedLists.{AlikeTo, alike_to, alike_beyond}
pub use Rattle.resolved_code.proofs.Numbers.Types.{type_is_named, types_are_named}
use Rattle.flow_rules.proofs.Classes.{own_declaration}

nearest_passes : {X : Type 0} (test : X → Bool) (held : ClassName → List X) (cs : List ClassName) (c : ClassName) (x : X) → nearest (λ k. find test (held k)) cs ≡ Some (c, x) → IsTrue (test x)
nearest_passes test held [] c x e = none_is_some (c, x) e
nearest_passes {X} test held (k ∷ cs) c x e = by_found (nearest_passes test held cs c x) (find test (held k)) refl e
  where
    by_found : (nearest (λ k. find test (held k)) cs ≡ Some (c, x) → IsTrue (test x)) → (o : Option X) → find test (held k) ≡ o → option_map_or (λ y. Some (k, y)) o (nearest (λ k. find test (held k)) cs) ≡ Some (c, x) → IsTrue (test x)
    by_found further None h f = further f
    by_found further (Some y) h f = let s : (k, y) ≡ (c, x) = same_Some (k, y) (c, x) f in find_passes test (held k) x (h ∙ ap (λ (p : ClassName × X). Some p.1) s)

module _ (tree : Tree) where
  -- the field that a reference finds has the type that it names
  pub field_has_type : (b : Bool) (r : FieldReference) (c : ClassName) (f : Field) → find_field tree b r ≡ Some (c, f) → f.field_type ≡ r.field_type
  field_has_type b r c f e =
      let passes : IsTrue (same_text f.name r.name && same_type f.field_type r.field_type && same_flag f.is_static b) = nearest_passes (λ (g : Field). same_text g.name r.name && same_type g.field_type r.field_type && same_flag g.is_static b) (fields_declared tree) (chain_of tree r.owner) c f e in
      same_type_equal f.field_type r.field_type (both_second _ _ (both_first _ _ passes))

  pub method_has_signature : (b : Bool) (r : MethodReference) (c : ClassName) (m : Method) → find_method tree b r ≡ Some (c, m) → m.signature ≡ r.signature
  method_has_signature b r c m e =
      let passes : IsTrue (same_method_name m.name r.name && same_signature m.signature r.signature && same_flag (is_static m.kind) (not b)) = nearest_passes (λ (g : Method). same_method_name g.name r.name && same_signature g.signature r.signature && same_flag (is_static g.kind) (not b)) (methods_declared tree) (classes_searched tree r.name r.owner) c m e in
      same_signature_equal m.signature r.signature (both_second _ _ (both_first _ _ passes))

  -- ---- types that numbers represent

  pub return_is_named : (o : Option ResolvedType) (d : Option DeclaredType) → option_map (type_at tree) o ≡ option_map Some d → option_map (type_named tree) o ≡ d
  return_is_named None None h = refl
  return_is_named (Some t) (Some d) h = ap Some (type_is_named tree t d (same_Some (type_at tree t) (Some d) h))
  return_is_named None (Some d) h = none_is_some (Some d) h
  return_is_named (Some t) None h = none_is_some (type_at tree t) (sym h)

  -- ---- members by their numbers

  module _ {X : Type 0} (part : Declaration → List X) where
    pub member_of_class : (n p : ℕ) (c name : ClassName) (d : Declaration) (x : X) → slice_get (declarations tree) n ≡ Some (name, d) → member_at part tree (n, p) ≡ Some (c, x) → (slice_get (part d) p ≡ Some x) × (name ≡ c)
    member_of_class n p c name d x at e = by_member (slice_get (part d) p) refl (sym (ap (λ (o : Option (ClassName × Declaration)). option_and_then {U = ClassName × X} (λ (y : ClassName × Declaration). option_map {U = ClassName × X} (λ z. (y.0, z)) (slice_get (part y.1) p)) o) at) ∙ e)
      where
        by_member : (o : Option X) → slice_get (part d) p ≡ o → option_map {U = ClassName × X} (λ z. (name, z)) o ≡ Some (c, x) → (slice_get (part d) p ≡ Some x) × (name ≡ c)
        by_member None h f = none_is_some (c, x) f
        by_member (Some z) h f = let s : (name, z) ≡ (c, x) = same_Some {A = ClassName × X} (name, z) (c, x) f in (h ∙ ap (λ (y : ClassName × X). Some y.1) s, ap (λ (y : ClassName × X). y.0) s)

    pub member_nowhere : (n p : ℕ) (c : ClassName) (x : X) → class_name tree n ≡ None → member_at part tree (n, p) ≡ Some (c, x) → ⊥
    member_nowhere n p c x none e = by_entry (slice_get (declarations tree) n) none e
      where
        by_entry : (o : Option (ClassName × Declaration)) → option_map (λ (y : ClassName × Declaration). y.0) o ≡ None → option_and_then {U = ClassName × X} (λ (y : ClassName × Declaration). option_map {U = ClassName × X} (λ z. (y.0, z)) (slice_get (part y.1) p)) o ≡ Some (c, x) → ⊥
        by_entry None h f = none_is_some (c, x) f
        by_entry (Some y) h f = none_is_some y.0 (sym h)

  -- ---- fields and methods that references find

  pub field_there : (b : Bool) (r : FieldReference) (f : FieldId) (k : ResolvedClass) (x : ResolvedField) → IsField tree b r f → IsClassAt tree f.class k → slice_get k.fields f.index ≡ Some x → type_named tree x.field_type ≡ r.field_type
  field_there b r f k x is (name, d, at, alike) e =
      let member : (slice_get d.fields f.index ≡ Some is.found) × (name ≡ is.declared_in) = member_of_class (λ y. y.fields) f.class f.index is.declared_in name d is.found at is.has_id in
      let field : AlikeTo (IsResolvedField tree) d.fields f.index x = alike_to (IsResolvedField tree) d.fields k.fields f.index x alike.fields e in
      let same : field.item ≡ is.found = same_Some field.item is.found (sym field.there ∙ member.0) in
      type_is_named tree x.field_type field.item.field_type field.alike.field_type ∙ ap (λ (y : Field). y.field_type) same ∙ field_has_type b r is.declared_in is.found is.finds

  pub field_lacks : (b : Bool) (r : FieldReference) (f : FieldId) (k : ResolvedClass) → IsField tree b r f → IsClassAt tree f.class k → slice_get k.fields f.index ≡ None → ⊥
  field_lacks b r f k is (name, d, at, alike) e =
      let member : (slice_get d.fields f.index ≡ Some is.found) × (name ≡ is.declared_in) = member_of_class (λ y. y.fields) f.class f.index is.declared_in name d is.found at is.has_id in
      none_is_some is.found (sym (alike_beyond (IsResolvedField tree) d.fields k.fields alike.fields f.index e) ∙ member.0)

  is_abstract_too : (named : MethodKind) (resolved : ResolvedKind) → IsResolvedKind tree named resolved → is_abstract_kind resolved ≡ is_abstract_method named
  is_abstract_too (NamedKind.Static code) (KindOf.Static body) h = refl
  is_abstract_too (NamedKind.Instance code) (KindOf.Instance body) h = refl
  is_abstract_too (NamedKind.Virtual s code) (KindOf.Virtual t body) h = refl
  is_abstract_too (NamedKind.Abstract s) (KindOf.Abstract t) h = refl
  is_abstract_too _ _ h = absurd h

  pub method_there : (b : Bool) (r : MethodReference) (f : MethodId) (k : ResolvedClass) (x : ResolvedMethod) (is : IsMethod tree b r f) → IsClassAt tree f.class k → slice_get k.methods f.index ≡ Some x → IsCallable tree r.signature is.found x
  method_there b r f k x is (name, d, at, alike) e =
      let member : (slice_get d.methods f.index ≡ Some is.found) × (name ≡ is.declared_in) = member_of_class (λ y. y.methods) f.class f.index is.declared_in name d is.found at is.has_id in
      let method : AlikeTo (IsResolvedMethod tree) d.methods f.index x = alike_to (IsResolvedMethod tree) d.methods k.methods f.index x alike.methods e in
      let same : method.item ≡ is.found = same_Some method.item is.found (sym method.there ∙ member.0) in
      let signature : method.item.signature ≡ r.signature = ap (λ (y : Method). y.signature) same ∙ method_has_signature b r is.declared_in is.found is.finds in
      record {
        parameters = types_are_named tree x.parameters method.item.signature.parameters method.alike.parameters ∙ ap (λ (y : Signature). y.parameters) signature;
        return_type = return_is_named x.return_type method.item.signature.return_type method.alike.return_type ∙ ap (λ (y : Signature). y.return_type) signature;
        is_abstract = is_abstract_too method.item.kind x.kind method.alike.kind ∙ ap (λ (y : Method). is_abstract_method y.kind) same;
      }

  pub method_lacks : (b : Bool) (r : MethodReference) (f : MethodId) (k : ResolvedClass) → IsMethod tree b r f → IsClassAt tree f.class k → slice_get k.methods f.index ≡ None → ⊥
  method_lacks b r f k is (name, d, at, alike) e =
      let member : (slice_get d.methods f.index ≡ Some is.found) × (name ≡ is.declared_in) = member_of_class (λ y. y.methods) f.class f.index is.declared_in name d is.found at is.has_id in
      none_is_some is.found (sym (alike_beyond (IsResolvedMethod tree) d.methods k.methods alike.methods f.index e) ∙ member.0)

  pub method_nowhere : (b : Bool) (r : MethodReference) (f : MethodId) → IsMethod tree b r f → class_name tree f.class ≡ None → ⊥
  method_nowhere b r f is none = member_nowhere (λ y. y.methods) f.class f.index is.declared_in is.found none is.has_id

  -- a constructor is of the class that it is looked for in
  pub constructor_owner : (c : ClassName) (ps : List DeclaredType) (f : MethodId) → IsMethod tree true (constructor_reference c ps) f → class_name tree f.class ≡ Some c
  constructor_owner c ps f is =
      let owner : is.declared_in ≡ c = alone (find tested (methods_declared tree c)) is.finds in
      by_entry (slice_get (declarations tree) f.class) refl is.has_id owner
    where
      tested : Method → Bool
      tested m = same_method_name m.name Constructor && same_signature m.signature (record { parameters = ps; return_type = None }) && same_flag (is_static m.kind) (not true)

      alone : (o : Option Method) → option_map_or {U = Option (ClassName × Method)} (λ (y : Method). Some (c, y)) o None ≡ Some (is.declared_in, is.found) → is.declared_in ≡ c
      alone None h = none_is_some (is.declared_in, is.found) h
      alone (Some y) h = let s : (c, y) ≡ (is.declared_in, is.found) = same_Some {A = ClassName × Method} (c, y) (is.declared_in, is.found) h in sym (ap (λ (z : ClassName × Method). z.0) s)

      by_entry : (o : Option (ClassName × Declaration)) → slice_get (declarations tree) f.class ≡ o → method_at tree (f.class, f.index) ≡ Some (is.declared_in, is.found) → is.declared_in ≡ c → class_name tree f.class ≡ Some c
      by_entry None at h owner = absurd (method_nowhere true (constructor_reference c ps) f is (ap (option_map (λ (y : ClassName × Declaration). y.0)) at))
      by_entry (Some y) at h owner =
          let member : (slice_get y.1.methods f.index ≡ Some is.found) × (y.0 ≡ is.declared_in) = member_of_class (λ z. z.methods) f.class f.index is.declared_in y.0 y.1 is.found at h in
          ap (option_map (λ (z : ClassName × Declaration). z.0)) at ∙ ap Some (member.1 ∙ owner)

  -- whether newobj makes objects of a class
  pub concrete_class : IsLegal tree → (n : ℕ) (c : ClassName) (k : ResolvedClass) → IsClassAt tree n k → class_name tree n ≡ Some c → not k.is_abstract ≡ is_concrete tree c
  concrete_class legal n c k (name, d, at, alike) e =
      let own : name ≡ c = same_Some name c (sym (ap (option_map (λ (z : ClassName × Declaration). z.0)) at) ∙ e) in
      let declared : declaration_of tree c ≡ Some d = ap (declaration_of tree) (sym own) ∙ own_declaration tree legal n name d at in
      ap not alike.is_abstract ∙ sym (ap (λ (o : Option Declaration). option_map_or (λ (z : Declaration). not z.is_abstract) o false) declared)

-- What a name is resolved to represents what it named: classes, types, members and labels.
use Rattle.std.proofs.Common.{◌≡◌, ℕ, Bool, true, false, find, List, [], ◌∷◌, map, option_map, option_and_then, Option, Some, None, slice_get, refl, sym, ap, subst, ◌∙◌}
use Rattle.std.specs.List.{position_from}
use Rattle.cil_model.specs.declared.types.ClassName.{ClassName}
use Rattle.cil_model.specs.declared.types.Element.{Element}
use Rattle.cil_model.specs.declared.types.Element.TheVariants.{Int32 as Int32Element, Int64 as Int64Element, Object as ObjectElement, String as StringElement, Class as ClassElement}
use Rattle.cil_model.specs.declared.types.DeclaredType.{DeclaredType}
use Rattle.cil_model.specs.declared.instructions.FieldReference.{FieldReference}
use Rattle.cil_model.specs.declared.instructions.MethodReference.{MethodReference}
use Rattle.cil_model.specs.declared.instructions.Instruction.{Instruction}
use Rattle.cil_model.specs.declared.instructions.Instruction.TheVariants as Named
use Rattle.cil_model.specs.declared.trees.Tree.{Tree}
use Rattle.cil_model.specs.declared.trees.Field.{Field}
use Rattle.cil_model.specs.declared.trees.Method.{Method}
use Rattle.cil_model.specs.declared.trees.MethodKind.{MethodKind}
use Rattle.cil_model.specs.declared.trees.MethodKind.TheVariants as NamedKind
use Rattle.cil_model.specs.declared.trees.Code.{Code}
use Rattle.cil_model.specs.declared.trees.Line.{Line}
use Rattle.cil_model.specs.Same.{same_text}
use Rattle.cil_model.specs.Declarations.{Declaration, declaration_of}
use Rattle.cil_model.specs.Bodies.{virtual_reference, constructor_reference}
use Rattle.cil_model.specs.Chains.{find_field, find_method}
use Rattle.cil_model.specs.Mentions.{literals_of}
use Rattle.cil_model.proofs.Lists.{none_is_some, find_passes}
use Rattle.cil_model.proofs.SameLaws.{same_text_equal}
use Rattle.name_tables.specs.declared.ids.FieldId.{FieldId}
use Rattle.name_tables.specs.declared.ids.MethodId.{MethodId}
use Rattle.name_tables.specs.Numbers.{class_number, field_number, method_number, field_at, method_at, declarations}
use Rattle.name_tables.proofs.NumberLaws.{HasId, has_id, field_has_id, method_has_id, found_at_index, found_some}
use Rattle.resolved_code.specs.declared.types.ResolvedElement.{ResolvedElement}
use Rattle.resolved_code.specs.declared.types.ResolvedElement.TheVariants.{Int32, Int64, Object, String, Class}
use Rattle.resolved_code.specs.declared.types.ResolvedType.{ResolvedType}
use Rattle.resolved_code.specs.declared.operations.Operation.{Operation}
use Rattle.resolved_code.specs.declared.operations.Operation.TheVariants as Resolved
use Rattle.resolved_code.specs.declared.classes.ResolvedField.{ResolvedField}
use Rattle.resolved_code.specs.declared.classes.ResolvedKind.{ResolvedKind}
use Rattle.resolved_code.specs.declared.classes.ResolvedKind.TheVariants as KindOf
use Rattle.resolved_code.specs.declared.classes.ResolvedMethod.{ResolvedMethod}
use Rattle.resolved_code.specs.declared.classes.ResolvedClass.{ResolvedClass}
use Rattle.resolved_code.specs.declared.classes.Body.{Body}
use Rattle.resolved_code.specs.ById.{class_name, element_at, type_at, AreTypes}
use Rattle.name_tables.specs.Sameness.{identity_of}
use Rattle.resolved_code.specs.Identities.{identity_number}
use Rattle.resolved_code.specs.ResolvedPrograms.{AllAlike, IsField, IsMethod, IsOperation, IsResolvedField, IsBody, IsResolvedKind, IsResolvedMethod, IsResolvedClass, AreResolved}
use Rattle.resolved_code.specs.Rules.{all_some, if_named, element_rule, type_rule, types_rule, field_id, method_id, field_rule, method_rule, with_owner, operation_rule, operations_rule, body_rule, kind_rule, resolved_method_rule, resolved_field_rule, class_rule, classes_rule}

-- ---- what was found, taken apart

given : {X : Type 0} (P : X → Type 0) (x y : X) → Some x ≡ Some y → P x → P y
given P x y e p = let f : x ≡ y = cc in subst P f p

mapped : {X Y : Type 0} (P : Y → Type 0) (f : X → Y) (o : Option X) (y : Y) → option_map f o ≡ Some y → ((x : X) → o ≡ Some x → P (f x)) → P y
mapped P f None y e each = none_is_some y e
mapped P f (Some x) y e each = given P (f x) y e (each x refl)

chosen : {X Y : Type 0} {P : Type 0} (f : X → Option Y) (o : Option X) (y : Y) → option_and_then f o ≡ Some y → ((x : X) → o ≡ Some x → f x ≡ Some y → P) → P
chosen f None y e each = none_is_some y e
chosen f (Some x) y e each = each x refl e

-- ---- lists

pub all_alike : {X Y : Type 0} (R : X → Y → Type 0) (rule : X → Option Y) → ((x : X) (y : Y) → rule x ≡ Some y → R x y) → (xs : List X) (ys : List Y) → all_some (map rule xs) ≡ Some ys → AllAlike R xs ys
all_alike R rule holds [] ys h = given (AllAlike R []) [] ys h tt
all_alike R rule holds (x ∷ xs) ys h =
    chosen (λ y. option_map (λ zs. y ∷ zs) (all_some (map rule xs))) (rule x) ys h (λ y e k.
    mapped (AllAlike R (x ∷ xs)) (λ zs. y ∷ zs) (all_some (map rule xs)) ys k (λ zs g. (holds x y e, all_alike R rule holds xs zs g)))

pub all_back : {X Y : Type 0} (back : Y → Option X) (rule : X → Option Y) → ((x : X) (y : Y) → rule x ≡ Some y → back y ≡ Some x) → (xs : List X) (ys : List Y) → all_some (map rule xs) ≡ Some ys → map back ys ≡ map Some xs
all_back {X} {Y} back rule holds [] ys h = given (λ (zs : List Y). map back zs ≡ []) [] ys h refl
all_back {X} {Y} back rule holds (x ∷ xs) ys h =
    chosen (λ y. option_map (λ zs. y ∷ zs) (all_some (map rule xs))) (rule x) ys h (λ y e k.
    mapped (λ (ws : List Y). map back ws ≡ Some x ∷ map Some xs) (λ zs. y ∷ zs) (all_some (map rule xs)) ys k (λ zs g. ap (λ o. o ∷ map back zs) (holds x y e) ∙ ap (λ os. Some x ∷ os) (all_back back rule holds xs zs g)))

pub all_there : {Y : Type 0} (os : List (Option Y)) (ys : List Y) → all_some os ≡ Some ys → os ≡ map Some ys
all_there {Y} [] ys h = given (λ (zs : List Y). [] ≡ map Some zs) [] ys h refl
all_there {Y} (o ∷ os) ys h =
    chosen (λ y. option_map (λ zs. y ∷ zs) (all_some os)) o ys h (λ y e k.
    mapped (λ (ws : List Y). o ∷ os ≡ map Some ws) (λ zs. y ∷ zs) (all_some os) ys k (λ zs g. ap (λ p. p ∷ os) e ∙ ap (λ ps. Some y ∷ ps) (all_there os zs g)))

named_back : {X Y : Type 0} (back : Y → Option X) (rule : X → Option Y) → ((x : X) (y : Y) → rule x ≡ Some y → back y ≡ Some x) → (o : Option X) (p : Option Y) → if_named rule o ≡ Some p → option_map back p ≡ option_map Some o
named_back {X} {Y} back rule holds None p h = given (λ (q : Option Y). option_map back q ≡ None) None p h refl
named_back {X} {Y} back rule holds (Some x) p h = mapped (λ (q : Option Y). option_map back q ≡ Some (Some x)) Some (rule x) p h (λ y e. ap Some (holds x y e))

-- the item at the index where a text is found
found_text : (s : List ℕ) (i : ℕ) (xs : List (List ℕ)) → position_from (same_text s) 0 xs ≡ Some i → slice_get xs i ≡ Some s
found_text s i xs h = by_find (find (same_text s) xs) refl
  where
    by_find : (o : Option (List ℕ)) → find (same_text s) xs ≡ o → slice_get xs i ≡ Some s
    by_find None e = none_is_some (slice_get xs i) (sym (sym (ap (option_map (slice_get xs)) h) ∙ found_at_index (same_text s) xs ∙ ap (option_map Some) e))
    by_find (Some x) e = found_some (same_text s) xs i h ∙ e ∙ ap Some (sym (same_text_equal s x (find_passes (same_text s) xs x e)))

module _ (tree : Tree) where
  -- ---- classes and types

  pub number_refines : (c : ClassName) (n : ℕ) → class_number tree c ≡ Some n → class_name tree n ≡ Some c
  number_refines c n e =
      let found : (d : Declaration) × (declaration_of tree c ≡ Some d) × (slice_get (declarations tree) n ≡ Some (c, d)) = subst (HasId tree c) e (has_id tree c) in
      ap (option_map (λ (x : ClassName × Declaration). x.0)) found.2

  element_refines : (e : Element) (n : ResolvedElement) → element_rule tree e ≡ Some n → element_at tree n ≡ Some e
  element_refines Int32Element n h = given (λ (x : ResolvedElement). element_at tree x ≡ Some Int32Element) Int32 n h refl
  element_refines Int64Element n h = given (λ (x : ResolvedElement). element_at tree x ≡ Some Int64Element) Int64 n h refl
  element_refines ObjectElement n h = given (λ (x : ResolvedElement). element_at tree x ≡ Some ObjectElement) Object n h refl
  element_refines StringElement n h = given (λ (x : ResolvedElement). element_at tree x ≡ Some StringElement) String n h refl
  element_refines (ClassElement c) n h = mapped (λ (x : ResolvedElement). element_at tree x ≡ Some (ClassElement c)) Class (class_number tree c) n h (λ i e. ap (option_map ClassElement) (number_refines c i e))

  pub type_refines : (t : DeclaredType) (n : ResolvedType) → type_rule tree t ≡ Some n → type_at tree n ≡ Some t
  type_refines t n h =
      mapped (λ (x : ResolvedType). type_at tree x ≡ Some t) (λ (e : ResolvedElement). record { element = e; brackets = t.brackets }) (element_rule tree t.element) n h
      (λ e g. ap (option_map (λ (x : Element). record { element = x; brackets = t.brackets })) (element_refines t.element e g))

  pub types_refine : (ts : List DeclaredType) (ns : List ResolvedType) → types_rule tree ts ≡ Some ns → AreTypes tree ns ts
  types_refine = all_back (type_at tree) (type_rule tree) type_refines

  -- ---- operands

  pub field_refines : (is_static : Bool) (r : FieldReference) (m : FieldId) → field_rule tree is_static r ≡ Some m → IsField tree is_static r m
  field_refines is_static r m h = mapped (IsField tree is_static r) field_id (field_number tree is_static r) m h (λ p e. by_found p e (find_field tree is_static r) refl (sym (ap (option_map (field_at tree)) e) ∙ field_has_id tree is_static r))
    where
      by_found : (p : ℕ × ℕ) → field_number tree is_static r ≡ Some p → (f : Option (ClassName × Field)) → find_field tree is_static r ≡ f → Some (field_at tree p) ≡ option_map Some f → IsField tree is_static r (field_id p)
      by_found p e None k g = none_is_some (field_at tree p) (sym g)
      by_found p e (Some x) k g = record { declared_in = x.0; found = x.1; finds = k; has_id = (let s : field_at tree p ≡ Some x = cc in s) }

  pub method_refines : (is_instance : Bool) (r : MethodReference) (m : MethodId) → method_rule tree is_instance r ≡ Some m → IsMethod tree is_instance r m
  method_refines is_instance r m h = mapped (IsMethod tree is_instance r) method_id (method_number tree is_instance r) m h (λ p e. by_found p e (find_method tree is_instance r) refl (sym (ap (option_map (method_at tree)) e) ∙ method_has_id tree is_instance r))
    where
      by_found : (p : ℕ × ℕ) → method_number tree is_instance r ≡ Some p → (f : Option (ClassName × Method)) → find_method tree is_instance r ≡ f → Some (method_at tree p) ≡ option_map Some f → IsMethod tree is_instance r (method_id p)
      by_found p e None k g = none_is_some (method_at tree p) (sym g)
      by_found p e (Some x) k g = record { declared_in = x.0; found = x.1; finds = k; has_id = (let s : method_at tree p ≡ Some x = cc in s) }

  owned : {M : Type 0} (P : Operation → Type 0) (c : ClassName) (make : ℕ → M → Operation) (member : Option M) (o : Operation) → with_owner tree c make member ≡ Some o →
      ((owner : ℕ) (m : M) → class_name tree owner ≡ Some c → member ≡ Some m → P (make owner m)) → P o
  owned P c make member o h each =
      chosen (λ owner. option_map (make owner) member) (class_number tree c) o h (λ owner e k. mapped P (make owner) member o k (λ m g. each owner m (number_refines c owner e) g))

  -- ---- instructions

  module _ (lines : List Line) where
    pub operation_refines : (i : Instruction) (o : Operation) → operation_rule tree lines i ≡ Some o → IsOperation tree lines i o
    operation_refines Named.NoOperation o h = given (IsOperation tree lines _) _ o h IsOperation.no_operation
    operation_refines (Named.LoadInt32 v) o h = given (IsOperation tree lines _) _ o h (IsOperation.load_int32 v)
    operation_refines (Named.LoadInt64 v) o h = given (IsOperation tree lines _) _ o h (IsOperation.load_int64 v)
    operation_refines Named.LoadNull o h = given (IsOperation tree lines _) _ o h IsOperation.load_null
    operation_refines (Named.LoadString s) o h = mapped (IsOperation tree lines _) Resolved.LoadString _ o h (λ n e. IsOperation.load_string s n (found_text s n (literals_of tree) e))
    operation_refines (Named.LoadArgument n) o h = given (IsOperation tree lines _) _ o h (IsOperation.load_argument n)
    operation_refines (Named.StoreArgument n) o h = given (IsOperation tree lines _) _ o h (IsOperation.store_argument n)
    operation_refines (Named.LoadLocal n) o h = given (IsOperation tree lines _) _ o h (IsOperation.load_local n)
    operation_refines (Named.StoreLocal n) o h = given (IsOperation tree lines _) _ o h (IsOperation.store_local n)
    operation_refines Named.Duplicate o h = given (IsOperation tree lines _) _ o h IsOperation.duplicate
    operation_refines Named.Pop o h = given (IsOperation tree lines _) _ o h IsOperation.pop
    operation_refines (Named.Binary op) o h = given (IsOperation tree lines _) _ o h (IsOperation.binary op)
    operation_refines (Named.Unary op) o h = given (IsOperation tree lines _) _ o h (IsOperation.unary op)
    operation_refines (Named.Shift op) o h = given (IsOperation tree lines _) _ o h (IsOperation.shift op)
    operation_refines (Named.Compare op) o h = given (IsOperation tree lines _) _ o h (IsOperation.compare op)
    operation_refines Named.ConvertInt32 o h = given (IsOperation tree lines _) _ o h IsOperation.convert_int32
    operation_refines Named.ConvertInt64 o h = given (IsOperation tree lines _) _ o h IsOperation.convert_int64
    operation_refines (Named.Branch condition l) o h = mapped (IsOperation tree lines _) (Resolved.Branch condition) _ o h (λ p e. IsOperation.branch condition l p e)
    operation_refines (Named.Switch ls) o h = mapped (IsOperation tree lines _) Resolved.Switch _ o h (λ ps e. IsOperation.switch ls ps (all_there _ ps e))
    operation_refines (Named.LoadField r) o h = owned (IsOperation tree lines _) r.owner Resolved.LoadField _ o h (λ n m e g. IsOperation.load_field r n m e (field_refines false r m g))
    operation_refines (Named.StoreField r) o h = owned (IsOperation tree lines _) r.owner Resolved.StoreField _ o h (λ n m e g. IsOperation.store_field r n m e (field_refines false r m g))
    operation_refines (Named.LoadStaticField r) o h = mapped (IsOperation tree lines _) Resolved.LoadStaticField _ o h (λ m g. IsOperation.load_static_field r m (field_refines true r m g))
    operation_refines (Named.StoreStaticField r) o h = mapped (IsOperation tree lines _) Resolved.StoreStaticField _ o h (λ m g. IsOperation.store_static_field r m (field_refines true r m g))
    operation_refines (Named.NewArray t) o h = mapped (IsOperation tree lines _) Resolved.NewArray _ o h (λ n e. IsOperation.new_array t n (type_refines t n e))
    operation_refines Named.LoadLength o h = given (IsOperation tree lines _) _ o h IsOperation.load_length
    operation_refines (Named.LoadElement kind) o h = given (IsOperation tree lines _) _ o h (IsOperation.load_element kind)
    operation_refines (Named.StoreElement kind) o h = given (IsOperation tree lines _) _ o h (IsOperation.store_element kind)
    operation_refines (Named.CastClass t) o h = mapped (IsOperation tree lines _) Resolved.CastClass _ o h (λ n e. IsOperation.cast_class t n (type_refines t n e))
    operation_refines (Named.IsInstance t) o h = mapped (IsOperation tree lines _) Resolved.IsInstance _ o h (λ n e. IsOperation.is_instance t n (type_refines t n e))
    operation_refines (Named.Call i r) o h = owned (IsOperation tree lines _) r.owner (Resolved.Call i) _ o h (λ n m e g. IsOperation.call i r n m e (method_refines i r m g))
    operation_refines (Named.CallVirtual c name s) o h = owned (IsOperation tree lines _) c Resolved.CallVirtual _ o h (λ n m e g. IsOperation.call_virtual c name s n m e (method_refines true (virtual_reference c name s) m g))
    operation_refines (Named.NewObject c ps) o h = mapped (IsOperation tree lines _) Resolved.NewObject _ o h (λ m g. IsOperation.new_object c ps m (method_refines true (constructor_reference c ps) m g))
    operation_refines Named.Return o h = given (IsOperation tree lines _) _ o h IsOperation.return

  -- ---- members

  pub body_refines : (code : Code) (body : Body) → body_rule tree code ≡ Some body → IsBody tree code body
  body_refines code body h =
      chosen (λ locals. option_map (λ operations. record { max_stack = code.max_stack; locals = locals; operations = operations }) (operations_rule tree code.lines)) (types_rule tree code.locals) body h (λ locals e k.
      mapped (IsBody tree code) (λ operations. record { max_stack = code.max_stack; locals = locals; operations = operations }) (operations_rule tree code.lines) body k (λ operations g.
      record { max_stack = refl; locals = types_refine code.locals locals e; operations = all_alike (λ (line : Line) operation. IsOperation tree code.lines line.instruction operation) (λ (line : Line). operation_rule tree code.lines line.instruction) (λ line operation f. operation_refines code.lines line.instruction operation f) code.lines operations g }))

  kind_refines : (k : MethodKind) (r : ResolvedKind) → kind_rule tree k ≡ Some r → IsResolvedKind tree k r
  kind_refines (NamedKind.Static code) r h = mapped (IsResolvedKind tree (NamedKind.Static code)) KindOf.Static (body_rule tree code) r h (body_refines code)
  kind_refines (NamedKind.Instance code) r h = mapped (IsResolvedKind tree (NamedKind.Instance code)) KindOf.Instance (body_rule tree code) r h (body_refines code)
  kind_refines (NamedKind.Virtual s code) r h = mapped (IsResolvedKind tree (NamedKind.Virtual s code)) (KindOf.Virtual s) (body_rule tree code) r h (λ body e. (refl, body_refines code body e))
  kind_refines (NamedKind.Abstract s) r h = given (IsResolvedKind tree (NamedKind.Abstract s)) (KindOf.Abstract s) r h refl

  pub method_refines_resolved : (m : Method) (r : ResolvedMethod) → resolved_method_rule tree m ≡ Some r → IsResolvedMethod tree m r
  method_refines_resolved m r h =
      chosen _ (types_rule tree m.signature.parameters) r h (λ parameters e k.
      chosen _ (if_named (type_rule tree) m.signature.return_type) r k (λ return_type f l.
      mapped (IsResolvedMethod tree m) (λ kind. record { identity = identity_number tree (identity_of m); parameters = parameters; return_type = return_type; kind = kind }) (kind_rule tree m.kind) r l (λ kind g.
      record { identity = refl; parameters = types_refine m.signature.parameters parameters e; return_type = named_back (type_at tree) (type_rule tree) type_refines m.signature.return_type return_type f; kind = kind_refines m.kind kind g })))

  pub field_refines_resolved : (f : Field) (r : ResolvedField) → resolved_field_rule tree f ≡ Some r → IsResolvedField tree f r
  field_refines_resolved f r h =
      mapped (IsResolvedField tree f) (λ t. record { is_static = f.is_static; field_type = t }) (type_rule tree f.field_type) r h (λ t e. record { is_static = refl; field_type = type_refines f.field_type t e })

  pub class_refines : (d : Declaration) (r : ResolvedClass) → class_rule tree d ≡ Some r → IsResolvedClass tree d r
  class_refines d r h =
      chosen _ (if_named (class_number tree) d.base) r h (λ base b k.
      chosen _ (all_some (map (class_number tree) d.interfaces)) r k (λ interfaces i l.
      chosen _ (all_some (map (resolved_field_rule tree) d.fields)) r l (λ fields f n.
      mapped (IsResolvedClass tree d) (λ methods. record { is_interface = d.is_interface; is_abstract = d.is_abstract; base = base; interfaces = interfaces; fields = fields; methods = methods }) (all_some (map (resolved_method_rule tree) d.methods)) r n (λ methods m.
      record {
        is_interface = refl;
        is_abstract = refl;
        base = named_back (class_name tree) (class_number tree) number_refines d.base base b;
        interfaces = all_back (class_name tree) (class_number tree) number_refines d.interfaces interfaces i;
        fields = all_alike (IsResolvedField tree) (resolved_field_rule tree) field_refines_resolved d.fields fields f;
        methods = all_alike (IsResolvedMethod tree) (resolved_method_rule tree) method_refines_resolved d.methods methods m;
      }))))

  pub classes_refine : (rs : List ResolvedClass) → classes_rule tree ≡ Some rs → AreResolved tree rs
  classes_refine rs h =
      all_alike (λ (entry : ClassName × Declaration) resolved. IsResolvedClass tree entry.1 resolved) (λ (e : ClassName × Declaration). class_rule tree e.1) (λ entry r e. class_refines entry.1 r e) (declarations tree) rs h

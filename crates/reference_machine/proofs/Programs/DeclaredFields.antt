-- The field that a reference finds is one of the object's fields, or of the static ones, under its key and with its type.
use Rattle.std.proofs.Common.{◌≡◌, ◌⊎◌, ℕ, zero, suc, Bool, true, false, cond, if◌then◌else◌, ◌&&◌, ◌||◌, IsTrue, List, [], ◌∷◌, ◌++◌, map, find, filter, flat_map, reverse, Option, Some, None, option_map, slice_get, refl, inl, inr, sym, ap, ◌∙◌, subst}
use Rattle.std.specs.List.{list_any}
use Rattle.std.proofs.lemmas.Bool.{or_parts, or_left, or_right, and_from}
use Rattle.std.proofs.lemmas.Grind.{reverse_onto}
use Rattle.std.proofs.lemmas.List.Folds.{list_any-append}
use Rattle.std.proofs.lemmas.Map.Views.{list_any-from_Contains}
use Rattle.std.proofs.lemmas.Option.{same_Some}
use Rattle.cil_model.specs.declared.types.ClassName.{ClassName}
use Rattle.cil_model.specs.declared.types.DeclaredType.{DeclaredType}
use Rattle.cil_model.specs.declared.types.Element.{Element}
use Rattle.cil_model.specs.declared.types.Element.TheVariants.{String, Class as ClassElement}
use Rattle.cil_model.specs.declared.instructions.FieldReference.{FieldReference}
use Rattle.cil_model.specs.declared.trees.Tree.{Tree}
use Rattle.cil_model.specs.declared.trees.Class.{Class}
use Rattle.cil_model.specs.declared.trees.ClassKind.{ClassKind}
use Rattle.cil_model.specs.declared.trees.ClassKind.TheVariants.{Interface, Class as PlainClass}
use Rattle.cil_model.specs.declared.trees.Field.{Field}
use Rattle.cil_model.specs.Same.{same_text, same_class, same_flag, same_type}
use Rattle.cil_model.specs.Declarations.{Declaration, object_name, string_name, plain, source_name, source_class, is_interface_kind, fields_unless_interface, field_members}
use Rattle.cil_model.specs.Chains.{chain_of, fields_declared, is_interface, interfaces_declared, listed_by, find_field}
use Rattle.cil_model.specs.Fields.{FieldKey, same_key, keyed_fields, instance_fields, static_fields}
use Rattle.cil_model.specs.Assignable.{IsAssignable, to_itself, to_object, to_base, to_interface, of_arrays, chained, is_assignable, element_named, type_of_class}
use Rattle.cil_model.specs.Legality.{IsLegal, has_repeat, class_doubles}
use Rattle.cil_model.proofs.CompleteLaws.{chain_of_base}
use Rattle.cil_model.proofs.Lists.{none_is_some, find_passes}
use Rattle.cil_model.proofs.SameLaws.{never, both_first, both_second, either, if_true, if_false, same_class_equal, same_class_itself, same_text_itself, same_type_equal, class_equivalence}
use Rattle.cil_model.proofs.AssignableLaws.{test_is_sound}
use Rattle.reference_machine.specs.Values.{ObjectName, Born, Literal, Value}
use Rattle.reference_machine.specs.States.{Contents, Instance, Array, HeapObject, State, entry_at, object_at, type_of_contents}
use Rattle.reference_machine.specs.Steps.{key_of}
use Rattle.reference_machine.specs.TypedStates.{IsObjectOf}
use Rattle.reference_machine.proofs.Programs.DeclaredClasses.{ThreadStatus, of_source, of_none, thread_status, source_declares, interface_is_source, none_doubles, listed_is_interface, found_fails}
use Rattle.reference_machine.proofs.Programs.VirtualTargets.{by_plain, weaker, nearest_at, interface_holds}

-- ---- entries under keys

-- what is before others is found first
entry_before : {K V : Type 0} (same : K → K → Bool) (k : K) (v : V) (es fs : List (K × V)) → entry_at same k es ≡ Some v → entry_at same k (es ++ fs) ≡ Some v
entry_before same k v [] fs h = none_is_some v h
entry_before {K} {V} same k v (e ∷ es) fs h = by_test (same e.0 k) h (entry_before same k v es fs)
  where
    by_test : (b : Bool) → (if b then Some e.1 else entry_at same k es) ≡ Some v → (entry_at same k es ≡ Some v → entry_at same k (es ++ fs) ≡ Some v) → (if b then Some e.1 else entry_at same k (es ++ fs)) ≡ Some v
    by_test true here later = here
    by_test false there later = later there

-- a class's fields with their keys
abbrev keyed : ClassName → Field → FieldKey × DeclaredType
keyed c f = (record { declared_in = c; name = f.name }, f.field_type)

abbrev same_field_name : Field → Field → Bool
same_field_name a b = same_text a.name b.name

-- fields of another class are passed by
pub entry_after : (k : FieldKey) (c : ClassName) (fs : List Field) (es : List (FieldKey × DeclaredType)) → same_class c k.declared_in ≡ false → entry_at same_key k (map (keyed c) fs ++ es) ≡ entry_at same_key k es
entry_after k c [] es other = refl
entry_after k c (f ∷ fs) es other =
    if_false (same_key (record { declared_in = c; name = f.name }) k) (Some f.field_type) (entry_at same_key k (map (keyed c) fs ++ es)) (ap (λ b. b && same_text f.name k.name) other) ∙ entry_after k c fs es other

-- a field of another name has another key
other_key : (c : ClassName) (f g : Field) → same_field_name f g ≡ false → same_key (record { declared_in = c; name = f.name }) (key_of (c, g)) ≡ false
other_key c f g other = by_class (same_class c c) (same_text f.name g.name) other
  where
    by_class : (a b : Bool) → b ≡ false → (a && b) ≡ false
    by_class true b e = e
    by_class false b e = refl

-- a key is the same as itself
own_key : (c : ClassName) (g : Field) → IsTrue (same_key (key_of (c, g)) (key_of (c, g)))
own_key c g = and_from _ _ (same_class_itself c) (same_text_itself g.name)

-- the fields of one staticness
abbrev of_flag : Bool → List Field → List Field
of_flag is_static fs = filter (λ (f : Field). same_flag f.is_static is_static) fs

-- where names differ, a field is found under its key among those of its staticness
own_entry : (is_static : Bool) (c : ClassName) (p : Field → Bool) (fs : List Field) (g : Field) → has_repeat same_field_name fs ≡ false → find p fs ≡ Some g → IsTrue (same_flag g.is_static is_static) →
    entry_at same_key (key_of (c, g)) (map (keyed c) (of_flag is_static fs)) ≡ Some g.field_type
own_entry is_static c p [] g differ found flag = none_is_some g found
own_entry is_static c p (f ∷ fs) g differ found flag = by_test (p f) found (λ there. own_entry is_static c p fs g (or_parts _ _ differ).1 there flag)
  where
    first : (b : Bool) → IsTrue b → entry_at same_key (key_of (c, g)) (map (keyed c) (cond b (g ∷ of_flag is_static fs) (of_flag is_static fs))) ≡ Some g.field_type
    first true is = if_true (same_key (key_of (c, g)) (key_of (c, g))) (Some g.field_type) _ (own_key c g)
    first false is = never is

    following : (b : Bool) → same_field_name f g ≡ false → entry_at same_key (key_of (c, g)) (map (keyed c) (of_flag is_static fs)) ≡ Some g.field_type →
        entry_at same_key (key_of (c, g)) (map (keyed c) (cond b (f ∷ of_flag is_static fs) (of_flag is_static fs))) ≡ Some g.field_type
    following true other later = if_false (same_key (key_of (c, f)) (key_of (c, g))) (Some f.field_type) _ (other_key c f g other) ∙ later
    following false other later = later

    by_test : (b : Bool) → cond b (Some f) (find p fs) ≡ Some g → (find p fs ≡ Some g → entry_at same_key (key_of (c, g)) (map (keyed c) (of_flag is_static fs)) ≡ Some g.field_type) →
        entry_at same_key (key_of (c, g)) (map (keyed c) (of_flag is_static (f ∷ fs))) ≡ Some g.field_type
    by_test true here later =
        subst (λ x. entry_at same_key (key_of (c, g)) (map (keyed c) (of_flag is_static (x ∷ fs))) ≡ Some g.field_type) (sym (same_Some f g here)) (first (same_flag g.is_static is_static) flag)
    by_test false there later = following (same_flag f.is_static is_static) (found_fails p (same_field_name f) fs g there (or_parts _ _ differ).0) (later there)

-- where a look-up finds an element, some element passes
some_passes : {X : Type 0} (p : X → Bool) (xs : List X) (x : X) → find p xs ≡ Some x → IsTrue (list_any p xs)
some_passes p [] x h = none_is_some x h
some_passes {X} p (y ∷ ys) x h = by_test (p y) h (some_passes p ys x)
  where
    by_test : (b : Bool) → cond b (Some y) (find p ys) ≡ Some x → (find p ys ≡ Some x → IsTrue (list_any p ys)) → IsTrue (b || list_any p ys)
    by_test true here later = refl
    by_test false there later = later there

-- what some element of a list passes, some element of the reversed list passes
any_reversed : {X : Type 0} (p : X → Bool) (xs : List X) → IsTrue (list_any p xs) → IsTrue (list_any p (reverse xs))
any_reversed p [] h = h
any_reversed {X} p (x ∷ xs) h = subst (λ ys. IsTrue (list_any p ys)) (sym (reverse_onto xs x [])) (list_any-append p (reverse xs) (x ∷ []) ∙ by_case (either (p x) (list_any p xs) h) (any_reversed p xs))
  where
    by_case : IsTrue (p x) ⊎ IsTrue (list_any p xs) → (IsTrue (list_any p xs) → IsTrue (list_any p (reverse xs))) → IsTrue (list_any p (reverse xs) || (p x || false))
    by_case (inl here) further = or_right _ _ (or_left _ _ here)
    by_case (inr there) further = or_left _ _ (further there)

module _ (tree : Tree) where
  -- ---- the fields of a class

  -- a class of the source has the fields that its text lists
  source_fields : (c : ClassName) (x : Class) → source_class tree c ≡ Some x → fields_declared tree c ≡ fields_unless_interface x.kind (field_members x)
  source_fields c x found = ap (listed_by (λ (d : Declaration). d.fields)) (source_declares tree c x found)

  -- a field that is found is one of a class of the source
  field_is_of_source : (c : ClassName) (p : Field → Bool) (g : Field) → find p (fields_declared tree c) ≡ Some g → (x : Class) × (source_class tree c ≡ Some x)
  field_is_of_source c p g h = by_thread_status (thread_status tree c) h
    where
      by_thread_status : {c : ClassName} → ThreadStatus tree c → find p (fields_declared tree c) ≡ Some g → (x : Class) × (source_class tree c ≡ Some x)
      by_thread_status (of_source x found) e = (x, found)
      by_thread_status (of_none none) e = none_is_some g (sym (ap (λ o. find p (listed_by (λ (d : Declaration). d.fields) o)) none) ∙ e)
      by_thread_status _ e = none_is_some g e

  -- and none where it is an interface
  kind_without_fields : (k : ClassKind) (fs : List Field) → IsTrue (is_interface_kind k) → fields_unless_interface k fs ≡ []
  kind_without_fields Interface fs h = refl
  kind_without_fields (PlainClass is_abstract base interfaces) fs h = never h

  -- an interface has no field
  interface_has_no_field : {A : Type 0} (c : ClassName) (p : Field → Bool) (g : Field) → is_interface tree c ≡ true → find p (fields_declared tree c) ≡ Some g → A
  interface_has_no_field c p g is h =
      let x = interface_is_source tree c is in
      none_is_some g (sym (ap (find p) (source_fields c x.0 x.1 ∙ kind_without_fields x.0.kind (field_members x.0) x.2)) ∙ h)

  -- System.Object and System.String have none either
  plain_has_no_field : {A : Type 0} (c : ClassName) (p : Field → Bool) (g : Field) → IsTrue (list_any (same_class c) (string_name ∷ object_name ∷ [])) → find p (fields_declared tree c) ≡ Some g → A
  plain_has_no_field {A} c p g h e = by_plain (λ z. find p (fields_declared tree z) ≡ Some g → A) (none_is_some g) (none_is_some g) c h e

  -- ---- fields of many classes

  -- a field of one of them is found under its key
  entry_among : {X : Type 0} (name_of : X → ClassName) (is_static : Bool) (k : FieldKey) (t : DeclaredType) → entry_at same_key k (keyed_fields tree is_static k.declared_in) ≡ Some t →
      (xs : List X) → IsTrue (list_any (λ x. same_class k.declared_in (name_of x)) xs) → entry_at same_key k (flat_map (λ x. keyed_fields tree is_static (name_of x)) xs) ≡ Some t
  entry_among name_of is_static k t own [] h = never h
  entry_among {X} name_of is_static k t own (x ∷ xs) h = by_test (same_class k.declared_in (name_of x)) refl h (entry_among name_of is_static k t own xs)
    where
      by_test : (b : Bool) → same_class k.declared_in (name_of x) ≡ b → IsTrue (b || list_any (λ y. same_class k.declared_in (name_of y)) xs) →
          (IsTrue (list_any (λ y. same_class k.declared_in (name_of y)) xs) → entry_at same_key k (flat_map (λ y. keyed_fields tree is_static (name_of y)) xs) ≡ Some t) →
          entry_at same_key k (keyed_fields tree is_static (name_of x) ++ flat_map (λ y. keyed_fields tree is_static (name_of y)) xs) ≡ Some t
      by_test true same there later =
          entry_before same_key k t (keyed_fields tree is_static (name_of x)) _ (subst (λ c. entry_at same_key k (keyed_fields tree is_static c) ≡ Some t) (same_class_equal k.declared_in (name_of x) same) own)
      by_test false other there later =
          entry_after k (name_of x) (of_flag is_static (fields_declared tree (name_of x))) _ (class_equivalence.symm (name_of x) k.declared_in ∙ other) ∙ later there

  -- ---- inherited fields

  -- the type is a class's, whose chain has the class
  abbrev HasInChain_at : Element → ℕ → ClassName → Type 0
  HasInChain_at e (suc n) d = ⊥
  HasInChain_at (ClassElement c) zero d = IsTrue (list_any (same_class d) (chain_of tree c))
  HasInChain_at _ zero d = ⊥

  abbrev HasInChain : DeclaredType → ClassName → Type 0
  HasInChain t d = HasInChain_at t.element t.brackets d

  -- an object at which a field is found
  pub record HasField (s : State) (n : ObjectName) (k : FieldKey) (t : DeclaredType) : Type 0 where
    pub object : HeapObject
    pub class_name : ClassName
    pub fields : List (FieldKey × Value)
    pub there : object_at s n ≡ Some object
    pub holds : object.contents ≡ Instance class_name fields
    pub entry : entry_at same_key k (instance_fields tree class_name) ≡ Some t

  module _ (legal : IsLegal tree) where
    -- names of a class's fields differ
    fields_differ : (c : ClassName) → has_repeat same_field_name (fields_declared tree c) ≡ false
    fields_differ c = by_thread_status (thread_status tree c)
      where
        of_kind : (k : ClassKind) (fs : List Field) → has_repeat same_field_name fs ≡ false → has_repeat same_field_name (fields_unless_interface k fs) ≡ false
        of_kind Interface fs h = refl
        of_kind (PlainClass is_abstract base interfaces) fs h = h

        by_thread_status : {c : ClassName} → ThreadStatus tree c → has_repeat same_field_name (fields_declared tree c) ≡ false
        by_thread_status {c} (of_source x found) =
            let single : class_doubles x ≡ false = found_fails (λ k. same_class (source_name k) c) class_doubles tree.classes x found (none_doubles tree legal) in
            ap (has_repeat same_field_name) (source_fields c x found) ∙ of_kind x.kind (field_members x) (or_parts _ _ (or_parts _ _ (or_parts _ _ single).0).0).0
        by_thread_status (of_none e) = ap (λ o. has_repeat same_field_name (listed_by (λ (d : Declaration). d.fields) o)) e
        by_thread_status _ = refl

    -- what is assignable to a type whose chain has a class with a field has that class in its chain
    chain_below : (d : ClassName) (p : Field → Bool) (g : Field) → find p (fields_declared tree d) ≡ Some g → {a b : DeclaredType} → IsAssignable tree a b → HasInChain b d → HasInChain a d
    chain_below d p g e to_itself h = h
    chain_below d p g e (to_object r) h = elim h [ ]
    chain_below d p g e (to_base c b is) h = subst (λ cs. IsTrue (list_any (same_class d) cs)) (sym (chain_of_base tree legal c b is)) (or_right _ _ h)
    chain_below d p g e (to_interface c i listed) h =
        let is : is_interface tree i ≡ true = listed_is_interface tree legal c i (list_any-from_Contains class_equivalence i (interfaces_declared tree c) listed) in
        let same : d ≡ i = interface_holds tree i d is h in
        interface_has_no_field i p g is (subst (λ x. find p (fields_declared tree x) ≡ Some g) same e)
    chain_below d p g e (of_arrays r r' inner) h = elim h [ ]
    chain_below d p g e (chained up further) h = chain_below d p g e up (chain_below d p g e further h)

    -- ---- what a reference finds

    module _ (is_static : Bool) (r : FieldReference) (d : ClassName) (g : Field) (found : find_field tree is_static r ≡ Some (d, g)) where
      -- what the look-up asks of a field
      abbrev asked : Field → Bool
      asked f = same_text f.name r.name && same_type f.field_type r.field_type && same_flag f.is_static is_static

      -- the look-up ends at a class of the owner's chain, which has the field
      found_in : (find asked (fields_declared tree d) ≡ Some g) × IsTrue (list_any (same_class d) (chain_of tree r.owner))
      found_in = nearest_at (λ c. find asked (fields_declared tree c)) (chain_of tree r.owner) d g found

      -- the field is as the reference says
      passes_asked : IsTrue (asked g)
      passes_asked = find_passes asked (fields_declared tree d) g found_in.0

      -- a field of the type that is named
      pub found_type : g.field_type ≡ r.field_type
      found_type = same_type_equal g.field_type r.field_type (both_second _ _ (both_first _ _ passes_asked))

      -- it is among the fields of its class, under its key
      found_entry : entry_at same_key (key_of (d, g)) (keyed_fields tree is_static d) ≡ Some g.field_type
      found_entry = own_entry is_static d asked (fields_declared tree d) g (fields_differ d) found_in.0 (both_second _ _ passes_asked)

      -- the owner is no class without fields in its chain, so its type is named by it
      owner_has : HasInChain (type_of_class r.owner) d
      owner_has = by_name (same_class r.owner object_name) (same_class r.owner string_name) refl refl
        where
          by_name : (v w : Bool) → same_class r.owner object_name ≡ v → same_class r.owner string_name ≡ w → HasInChain (plain (element_named v w r.owner)) d
          by_name true w is is' =
              plain_has_no_field d asked g (or_right (same_class d string_name) _ (subst (λ z. IsTrue (list_any (same_class d) (chain_of tree z))) (same_class_equal r.owner object_name is) found_in.1)) found_in.0
          by_name false true is is' =
              plain_has_no_field d asked g (subst (λ z. IsTrue (list_any (same_class d) (chain_of tree z))) (same_class_equal r.owner string_name is') found_in.1) found_in.0
          by_name false false is is' = found_in.1

      -- and so has each type that is assignable to it
      below_owner : (own : DeclaredType) → IsTrue (is_assignable tree own (type_of_class r.owner)) → HasInChain own d
      below_owner own fits = chain_below d asked g found_in.0 (test_is_sound tree own (type_of_class r.owner) fits) owner_has

    -- a static field that is found is among the static fields
    pub static_field_there : (r : FieldReference) (d : ClassName) (g : Field) → find_field tree true r ≡ Some (d, g) → entry_at same_key (key_of (d, g)) (static_fields tree) ≡ Some r.field_type
    static_field_there r d g found =
        let x = field_is_of_source d (asked true r d g found) g (found_in true r d g found).0 in
        let among : IsTrue (list_any (λ (c : Class). same_class d (source_name c)) tree.classes) = weaker (λ (c : Class). same_class (source_name c) d) (λ (c : Class). same_class d (source_name c)) (λ c same. class_equivalence.symm d (source_name c) ∙ same) tree.classes (found_among x.0 x.1) in
        entry_among source_name true (key_of (d, g)) g.field_type (found_entry true r d g found) tree.classes among ∙ ap Some (found_type true r d g found)
      where
        found_among : (x : Class) → source_class tree d ≡ Some x → IsTrue (list_any (λ (c : Class). same_class (source_name c) d) tree.classes)
        found_among x is = some_passes (λ (c : Class). same_class (source_name c) d) tree.classes x is

    -- the object of a class at or below the owner
    chain_of_instance : (c d : ClassName) → HasInChain (type_of_class c) d → IsTrue (list_any (same_class d) (chain_of tree c))
    chain_of_instance c d h = by_name (same_class c object_name) (same_class c string_name) h
      where
        by_name : (v w : Bool) → HasInChain (plain (element_named v w c)) d → IsTrue (list_any (same_class d) (chain_of tree c))
        by_name false false k = k
        by_name _ _ k = elim k [ ]

    -- an instance field that is found is one of an object of the owner's type
    pub field_there : (s : State) (r : FieldReference) (d : ClassName) (g : Field) → find_field tree false r ≡ Some (d, g) → (n : ObjectName) → IsObjectOf tree s n (type_of_class r.owner) → HasField s n (key_of (d, g)) r.field_type
    field_there s r d g found (Literal characters) h = elim (subst (λ x. HasInChain x d) (sym (same_Some (plain String) h.own h.is)) (below_owner false r d g found h.own h.fits)) [ ]
    field_there s r d g found (Born n) h = by_object (slice_get s.objects n) refl h.is
      where
        by_contents : (o : HeapObject) → slice_get s.objects n ≡ Some o → (c : Contents) → o.contents ≡ c → type_of_contents c ≡ h.own → HasField s (Born n) (key_of (d, g)) r.field_type
        by_contents o there (Array t elements) holds is = elim (subst (λ x. HasInChain x d) (sym is) (below_owner false r d g found h.own h.fits)) [ ]
        by_contents o there (Instance c fields) holds is =
            let among : IsTrue (list_any (same_class d) (reverse (chain_of tree c))) = any_reversed (same_class d) (chain_of tree c) (chain_of_instance c d (subst (λ x. HasInChain x d) (sym is) (below_owner false r d g found h.own h.fits))) in
            record {
              object = o;
              class_name = c;
              fields = fields;
              there = there;
              holds = holds;
              entry = entry_among (λ x. x) false (key_of (d, g)) g.field_type (found_entry false r d g found) (reverse (chain_of tree c)) among ∙ ap Some (found_type false r d g found);
            }

        by_object : (o : Option HeapObject) → slice_get s.objects n ≡ o → option_map (λ (x : HeapObject). type_of_contents x.contents) o ≡ Some h.own → HasField s (Born n) (key_of (d, g)) r.field_type
        by_object None there is = none_is_some h.own is
        by_object (Some o) there is = by_contents o there o.contents refl (same_Some (type_of_contents o.contents) h.own is)

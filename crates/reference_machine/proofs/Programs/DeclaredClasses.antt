-- What the name of a class may refer to, and what the rules of a legal tree say of what it declares.
use Rattle.std.proofs.Common.{◌≡◌, ◌⊎◌, ℕ, Bool, true, false, not, cond, if◌then◌else◌, ◌&&◌, ◌||◌, IsTrue, List, [], ◌∷◌, find, Option, Some, None, is_some, option_map, option_and_then, option_to_list, slice_get, refl, inl, inr, sym, ap, ◌∙◌, subst}
use Rattle.std.specs.List.{list_any, list_all}
use Rattle.std.specs.Option.{option_map_or}
use Rattle.std.proofs.lemmas.Bool.{or_parts, not-false}
use Rattle.std.proofs.lemmas.Option.{same_Some}
use Rattle.cil_model.specs.declared.types.ClassName.{ClassName}
use Rattle.cil_model.specs.declared.trees.Tree.{Tree}
use Rattle.cil_model.specs.declared.trees.Class.{Class}
use Rattle.cil_model.specs.declared.trees.ClassKind.{ClassKind}
use Rattle.cil_model.specs.declared.trees.ClassKind.TheVariants.{Interface, Class as PlainClass}
use Rattle.cil_model.specs.declared.trees.Method.{Method}
use Rattle.cil_model.specs.Same.{same_class}
use Rattle.cil_model.specs.Declarations.{Declaration, source_name, source_class, is_interface_kind, is_abstract_kind, base_named, interfaces_named, declared_as, field_members, method_members, object_name, string_name, console_name, monitor_name, thread_name, built_ins, declaration_of}
use Rattle.cil_model.specs.Chains.{base_of, methods_declared, interfaces_declared, is_interface, listed_by}
use Rattle.cil_model.specs.FlowRules.{is_concrete}
use Rattle.cil_model.specs.Mentions.{bases_named}
use Rattle.cil_model.specs.Legality.{IsLegal, first_broken, has_repeat, same_method, class_doubles, doubles_name, lacks_name, has_cycle, lacks_implementation, has_kind_mismatch, lacks_entry, passes_limit, is_source_class, is_source_interface, is_possible_base, passes_source, class_finds, implements_method, implements_all, has_abstract_slot, kinds_fit}
use Rattle.cil_model.proofs.Lists.{none_is_some, find_passes}
use Rattle.cil_model.proofs.SameLaws.{never, both_first, both_second, either, is_not, if_false, same_class_equal, not_both}
use Rattle.cil_model.proofs.Legal.{classes_find, unbroken}
use Rattle.cil_model.proofs.CompleteLaws.{all_pass}

-- ---- look-ups

-- what all pass, the one that is found passes
pub found_passes : {X : Type 0} (p test : X → Bool) (xs : List X) (x : X) → find p xs ≡ Some x → IsTrue (list_all test xs) → IsTrue (test x)
found_passes p test [] x h k = none_is_some x h
found_passes {X} p test (y ∷ ys) x h k = by_test (p y) h (λ e. found_passes p test ys x e (both_second _ _ k))
  where
    by_test : (b : Bool) → cond b (Some y) (find p ys) ≡ Some x → (find p ys ≡ Some x → IsTrue (test x)) → IsTrue (test x)
    by_test true e later = subst (λ z. IsTrue (test z)) (same_Some y x e) (both_first _ _ k)
    by_test false e later = later e

-- what none passes, the one that is found does not pass
pub found_fails : {X : Type 0} (p test : X → Bool) (xs : List X) (x : X) → find p xs ≡ Some x → list_any test xs ≡ false → test x ≡ false
found_fails p test [] x h k = none_is_some x h
found_fails {X} p test (y ∷ ys) x h k = by_test (p y) h (λ e. found_fails p test ys x e (or_parts _ _ k).1)
  where
    by_test : (b : Bool) → cond b (Some y) (find p ys) ≡ Some x → (find p ys ≡ Some x → test x ≡ false) → test x ≡ false
    by_test true e later = subst (λ z. test z ≡ false) (same_Some y x e) (or_parts _ _ k).0
    by_test false e later = later e

-- ---- rules 201, 204 and 205

module _ (tree : Tree) where
  abbrev pub declared : Class → Declaration
  declared x = declared_as x.kind (field_members x) (method_members x)

  -- ---- what a name refers to

  pub source_is_named : (c : ClassName) (x : Class) → source_class tree c ≡ Some x → source_name x ≡ c
  source_is_named c x found = same_class_equal (source_name x) c (find_passes (λ k. same_class (source_name k) c) tree.classes x found)

  pub source_declares : (c : ClassName) (x : Class) → source_class tree c ≡ Some x → declaration_of tree c ≡ Some (declared x)
  source_declares c x found =
      let bare : is_some c.assembly ≡ false = ap (λ (k : ClassName). is_some k.assembly) (sym (source_is_named c x found)) in
      if_false (is_some c.assembly) _ _ bare ∙ ap (option_map declared) found

  -- a class of the source, one of the built-in classes, or none
  pub data ThreadStatus : ClassName → Type 0 where
    of_source : {c : ClassName} (x : Class) → source_class tree c ≡ Some x → ThreadStatus c
    of_object : ThreadStatus object_name
    of_string : ThreadStatus string_name
    of_console : ThreadStatus console_name
    of_monitor : ThreadStatus monitor_name
    of_thread : ThreadStatus thread_name
    of_none : {c : ClassName} → declaration_of tree c ≡ None → ThreadStatus c

  status_at : (o : Option (List ℕ)) (own : List ℕ) → ThreadStatus (record { assembly = o; name = own })
  status_at None own = by_class (source_class tree c) refl
    where
      c : ClassName
      c = record { assembly = None; name = own }

      by_class : (o : Option Class) → source_class tree c ≡ o → ThreadStatus c
      by_class None e = of_none (ap (option_map declared) e)
      by_class (Some x) e = of_source x e
  status_at (Some a) own = by_name (same_class object_name c) (same_class string_name c) (same_class console_name c) (same_class monitor_name c) (same_class thread_name c) refl refl refl refl refl refl
    where
      c : ClassName
      c = record { assembly = Some a; name = own }

      by_name : (t₁ t₂ t₃ t₄ t₅ : Bool) → same_class object_name c ≡ t₁ → same_class string_name c ≡ t₂ → same_class console_name c ≡ t₃ → same_class monitor_name c ≡ t₄ → same_class thread_name c ≡ t₅ →
          declaration_of tree c ≡ option_map (λ (entry : ClassName × Declaration). entry.1) (
          cond t₁ (slice_get built_ins 0) (cond t₂ (slice_get built_ins 1) (cond t₃ (slice_get built_ins 2) (cond t₄ (slice_get built_ins 3) (cond t₅ (slice_get built_ins 4) None))))) → ThreadStatus c
      by_name true t₂ t₃ t₄ t₅ e₁ e₂ e₃ e₄ e₅ k = subst ThreadStatus (same_class_equal object_name c e₁) of_object
      by_name false true t₃ t₄ t₅ e₁ e₂ e₃ e₄ e₅ k = subst ThreadStatus (same_class_equal string_name c e₂) of_string
      by_name false false true t₄ t₅ e₁ e₂ e₃ e₄ e₅ k = subst ThreadStatus (same_class_equal console_name c e₃) of_console
      by_name false false false true t₅ e₁ e₂ e₃ e₄ e₅ k = subst ThreadStatus (same_class_equal monitor_name c e₄) of_monitor
      by_name false false false false true e₁ e₂ e₃ e₄ e₅ k = subst ThreadStatus (same_class_equal thread_name c e₅) of_thread
      by_name false false false false false e₁ e₂ e₃ e₄ e₅ k = of_none k

  pub thread_status : (c : ClassName) → ThreadStatus c
  thread_status c = status_at c.assembly c.name

  -- no built-in class, and no class that isn't there, lists an interface or is one
  pub interface_is_source : (c : ClassName) → is_interface tree c ≡ true → (x : Class) × (source_class tree c ≡ Some x) × IsTrue (is_interface_kind x.kind)
  interface_is_source c h = by_thread_status (thread_status c) h
    where
      by_thread_status : {c : ClassName} → ThreadStatus c → is_interface tree c ≡ true → (x : Class) × (source_class tree c ≡ Some x) × IsTrue (is_interface_kind x.kind)
      by_thread_status {c} (of_source x found) k = (x, found, sym (ap (λ o. option_map_or (λ (d : Declaration). d.is_interface) o false) (source_declares c x found)) ∙ k)
      by_thread_status (of_none e) k = never (sym (ap (λ o. option_map_or (λ (d : Declaration). d.is_interface) o false) e) ∙ k)
      by_thread_status _ k = never k

  pub implementer_is_source : (k i : ClassName) → IsTrue (list_any (same_class i) (interfaces_declared tree k)) → (x : Class) × (source_class tree k ≡ Some x) × IsTrue (list_any (same_class i) (interfaces_named x.kind))
  implementer_is_source k i h = by_thread_status (thread_status k) h
    where
      by_thread_status : {k : ClassName} → ThreadStatus k → IsTrue (list_any (same_class i) (interfaces_declared tree k)) → (x : Class) × (source_class tree k ≡ Some x) × IsTrue (list_any (same_class i) (interfaces_named x.kind))
      by_thread_status {k} (of_source x found) t = (x, found, subst (λ o. IsTrue (list_any (same_class i) (listed_by (λ (d : Declaration). d.interfaces) o))) (source_declares k x found) t)
      by_thread_status (of_none e) t = never (subst (λ o. IsTrue (list_any (same_class i) (listed_by (λ (d : Declaration). d.interfaces) o))) e t)
      by_thread_status _ t = never t

  kind_has_no_base : (k : ClassKind) → IsTrue (is_interface_kind k) → base_named k ≡ None
  kind_has_no_base Interface h = refl
  kind_has_no_base (PlainClass is_abstract base interfaces) h = never h

  source_base : (c : ClassName) (x : Class) → source_class tree c ≡ Some x → base_of tree c ≡ base_named x.kind
  source_base c x found = ap (option_and_then (λ (d : Declaration). d.base)) (source_declares c x found)

  source_methods : (c : ClassName) (x : Class) → source_class tree c ≡ Some x → methods_declared tree c ≡ method_members x
  source_methods c x found = ap (listed_by (λ (d : Declaration). d.methods)) (source_declares c x found)

  -- an interface has no base
  pub interface_has_no_base : (c : ClassName) → is_interface tree c ≡ true → base_of tree c ≡ None
  interface_has_no_base c h = let x = interface_is_source c h in source_base c x.0 x.1 ∙ kind_has_no_base x.0.kind x.2

  -- what a class may be derived from is no interface
  possible_base_is_class : (b : ClassName) → IsTrue (is_possible_base tree b) → is_interface tree b ≡ false
  possible_base_is_class b h = by_base (either (is_source_class tree b || same_class b object_name) (same_class b thread_name) h)
    where
      by_source : IsTrue (is_source_class tree b) → (v : Bool) → is_interface tree b ≡ v → is_interface tree b ≡ false
      by_source s false e = e
      by_source s true e =
          let x = interface_is_source b e in
          not_both (is_interface_kind x.0.kind) (is_not (is_interface_kind x.0.kind) (subst (λ o. IsTrue (passes_source (λ k. not (is_interface_kind k)) o)) x.1 s)) x.2

      by_first : IsTrue (is_source_class tree b) ⊎ IsTrue (same_class b object_name) → is_interface tree b ≡ false
      by_first (inl s) = by_source s (is_interface tree b) refl
      by_first (inr e) = subst (λ k. is_interface tree k ≡ false) (sym (same_class_equal b object_name e)) refl

      by_base : IsTrue (is_source_class tree b || same_class b object_name) ⊎ IsTrue (same_class b thread_name) → is_interface tree b ≡ false
      by_base (inl s) = by_first (either (is_source_class tree b) (same_class b object_name) s)
      by_base (inr e) = subst (λ k. is_interface tree k ≡ false) (sym (same_class_equal b thread_name e)) refl

  -- ---- what the rules say

  module _ (legal : IsLegal tree) where
    after_cycles : (doubles_name tree ≡ false) × (first_broken ((204, lacks_implementation tree) ∷ (205, has_kind_mismatch tree) ∷ (206, lacks_entry tree) ∷ (207, passes_limit tree) ∷ []) ≡ None)
    after_cycles =
        let one : (doubles_name tree ≡ false) × (first_broken ((202, lacks_name tree) ∷ (203, has_cycle tree) ∷ (204, lacks_implementation tree) ∷ (205, has_kind_mismatch tree) ∷ (206, lacks_entry tree) ∷ (207, passes_limit tree) ∷ []) ≡ None) = unbroken _ _ _ legal in
        let two : (lacks_name tree ≡ false) × (first_broken ((203, has_cycle tree) ∷ (204, lacks_implementation tree) ∷ (205, has_kind_mismatch tree) ∷ (206, lacks_entry tree) ∷ (207, passes_limit tree) ∷ []) ≡ None) = unbroken _ _ _ one.1 in
        (one.0, (unbroken (has_cycle tree) 203 _ two.1).1)

    all_implement : IsTrue (list_all (implements_all tree) tree.classes)
    all_implement = not-false _ (unbroken (lacks_implementation tree) 204 _ after_cycles.1).0

    pub all_kinds_fit : IsTrue (list_all (kinds_fit tree) tree.classes)
    all_kinds_fit = not-false _ (unbroken (has_kind_mismatch tree) 205 _ (unbroken (lacks_implementation tree) 204 _ after_cycles.1).1).0

    pub none_doubles : list_any class_doubles tree.classes ≡ false
    none_doubles = (or_parts _ _ after_cycles.0).1

    -- no class has two methods of one name and signature
    pub methods_differ : (c : ClassName) → has_repeat same_method (methods_declared tree c) ≡ false
    methods_differ c = by_thread_status (thread_status c)
      where
        by_thread_status : {c : ClassName} → ThreadStatus c → has_repeat same_method (methods_declared tree c) ≡ false
        by_thread_status {c} (of_source x found) =
            let single : class_doubles x ≡ false = found_fails (λ k. same_class (source_name k) c) class_doubles tree.classes x found none_doubles in
            ap (has_repeat same_method) (source_methods c x found) ∙ (or_parts _ _ (or_parts _ _ (or_parts _ _ single).0).0).1
        by_thread_status (of_none e) = ap (λ o. has_repeat same_method (listed_by (λ (d : Declaration). d.methods) o)) e
        by_thread_status _ = refl

    -- what a class lists is an interface
    pub listed_is_interface : (k i : ClassName) → IsTrue (list_any (same_class i) (interfaces_declared tree k)) → is_interface tree i ≡ true
    listed_is_interface k i h =
        let x = implementer_is_source k i h in
        let finds : IsTrue (class_finds tree x.0) = found_passes (λ y. same_class (source_name y) k) (class_finds tree) tree.classes x.0 x.1 (classes_find tree legal) in
        let is : IsTrue (is_source_interface tree i) = all_pass (is_source_interface tree) (same_class i) (interfaces_named x.0.kind) (both_second _ _ finds) (λ j good same. subst (λ z. IsTrue (is_source_interface tree z)) (sym (same_class_equal i j same)) good) x.2 in
        by_class (source_class tree i) refl is
      where
        by_class : (o : Option Class) → source_class tree i ≡ o → IsTrue (passes_source is_interface_kind o) → is_interface tree i ≡ true
        by_class None e t = never t
        by_class (Some x) e t = ap (λ o. option_map_or (λ (d : Declaration). d.is_interface) o false) (source_declares i x e) ∙ t

    -- a base is no interface
    pub base_is_class : (c b : ClassName) → base_of tree c ≡ Some b → is_interface tree b ≡ false
    base_is_class c b h = by_thread_status (thread_status c) h
      where
        named : (k : ClassKind) → base_named k ≡ Some b → IsTrue (list_all (is_possible_base tree) (bases_named k)) → IsTrue (is_possible_base tree b)
        named k e t = both_first _ _ (subst (λ o. IsTrue (list_all (is_possible_base tree) (option_to_list o))) e t)

        by_thread_status : {c : ClassName} → ThreadStatus c → base_of tree c ≡ Some b → is_interface tree b ≡ false
        by_thread_status {c} (of_source x found) e =
            let finds : IsTrue (class_finds tree x) = found_passes (λ y. same_class (source_name y) c) (class_finds tree) tree.classes x found (classes_find tree legal) in
            possible_base_is_class b (named x.kind (sym (source_base c x found) ∙ e) (both_first _ _ finds))
        by_thread_status of_string e = subst (λ k. is_interface tree k ≡ false) (same_Some object_name b e) refl
        by_thread_status of_thread e = subst (λ k. is_interface tree k ≡ false) (same_Some object_name b e) refl
        by_thread_status (of_none none) e = none_is_some b (sym (ap (option_and_then (λ (d : Declaration). d.base)) none) ∙ e)
        by_thread_status _ e = none_is_some b e

    -- a class has a virtual method for each method of an interface that it lists
    pub implements_listed : (k i : ClassName) (m : Method) → IsTrue (list_any (same_class i) (interfaces_declared tree k)) → (p : Method → Bool) → find p (methods_declared tree i) ≡ Some m → IsTrue (implements_method tree k m)
    implements_listed k i m h p here =
        let x = implementer_is_source k i h in
        let each : IsTrue (implements_all tree x.0) = found_passes (λ y. same_class (source_name y) k) (implements_all tree) tree.classes x.0 x.1 all_implement in
        let own : IsTrue (implements_method tree (source_name x.0) m) = all_pass (λ j. list_all (implements_method tree (source_name x.0)) (methods_declared tree j)) (same_class i) (interfaces_named x.0.kind) each
        (λ j good same. found_passes p (implements_method tree (source_name x.0)) (methods_declared tree i) m here (subst (λ z. IsTrue (list_all (implements_method tree (source_name x.0)) (methods_declared tree z))) (sym (same_class_equal i j same)) good)) x.2 in
        subst (λ z. IsTrue (implements_method tree z m)) (source_is_named k x.0 x.1) own

    -- a class that has objects has no abstract slot
    pub no_abstract_slot : (d : ClassName) → IsTrue (is_concrete tree d) → has_abstract_slot tree d ≡ false
    no_abstract_slot d h = by_thread_status (thread_status d) h
      where
        by_abstract : (a s t w : Bool) → IsTrue (not a) → IsTrue ((a || (not s && not t)) && w) → t ≡ false
        by_abstract false s t w c k = is_not t (both_second _ _ (both_first _ _ k))
        by_abstract true s t w c k = never c

        by_kind : (k : ClassKind) (s t w v : Bool) → IsTrue (not (is_abstract_kind k)) → IsTrue (if is_interface_kind k then v else (is_abstract_kind k || (not s && not t)) && w) → t ≡ false
        by_kind Interface s t w v c e = never c
        by_kind (PlainClass is_abstract base interfaces) s t w v c e = by_abstract is_abstract s t w c e

        by_thread_status : {d : ClassName} → ThreadStatus d → IsTrue (is_concrete tree d) → has_abstract_slot tree d ≡ false
        by_thread_status {d} (of_source x found) c =
            let fits : IsTrue (kinds_fit tree x) = found_passes (λ y. same_class (source_name y) d) (kinds_fit tree) tree.classes x found all_kinds_fit in
            let concrete : IsTrue (not (is_abstract_kind x.kind)) = subst (λ o. IsTrue (option_map_or (λ (e : Declaration). not e.is_abstract) o false)) (source_declares d x found) c in
            subst (λ z. has_abstract_slot tree z ≡ false) (source_is_named d x found) (by_kind x.kind _ _ _ _ concrete fits)
        by_thread_status (of_none e) c = never (subst (λ o. IsTrue (option_map_or (λ (k : Declaration). not k.is_abstract) o false)) e c)
        by_thread_status _ c = refl

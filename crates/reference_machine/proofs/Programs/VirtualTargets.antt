-- In a legal tree a virtual call on an object of a class that has objects finds a method with code.
use Rattle.std.proofs.Common.{◌≡◌, ◌≢◌, ◌⊎◌, ℕ, zero, suc, Bool, true, false, not, cond, if◌then◌else◌, ◌&&◌, ◌||◌, IsTrue, List, [], ◌∷◌, ◌++◌, length, find, Option, Some, None, is_some, option_and_then, unwrap_or, refl, inl, inr, sym, ap, ◌∙◌, subst}
use Rattle.std.specs.List.{list_any}
use Rattle.std.specs.Option.{option_map_or}
use Rattle.std.proofs.lemmas.Bool.{or_parts, or_left, or_right, and_from}
use Rattle.std.proofs.lemmas.List.Folds.{list_any-append}
use Rattle.std.proofs.lemmas.Option.{option_and_then_some, same_Some}
use Rattle.cil_model.specs.declared.types.ClassName.{ClassName}
use Rattle.cil_model.specs.declared.types.DeclaredType.{DeclaredType}
use Rattle.cil_model.specs.declared.types.Element.TheVariants.{String, Class}
use Rattle.cil_model.specs.declared.types.Signature.{Signature}
use Rattle.cil_model.specs.declared.instructions.MethodName.{MethodName}
use Rattle.cil_model.specs.declared.instructions.MethodName.TheVariants.{Named}
use Rattle.cil_model.specs.declared.trees.Tree.{Tree}
use Rattle.cil_model.specs.declared.trees.Code.{Code}
use Rattle.cil_model.specs.declared.trees.Method.{Method}
use Rattle.cil_model.specs.declared.trees.MethodKind.{MethodKind}
use Rattle.cil_model.specs.declared.trees.MethodKind.TheVariants.{Virtual, Abstract}
use Rattle.cil_model.specs.Same.{same_flag, same_class, same_options, same_signature, same_method_name}
use Rattle.cil_model.specs.Declarations.{object_name, string_name, plain}
use Rattle.cil_model.specs.Chains.{base_of, chain_within, chain_of, longest_chain, methods_declared, interfaces_declared, is_interface, method_declared, nearest, find_method, is_static, is_virtual, is_abstract_method, is_new_slot_method}
use Rattle.cil_model.specs.Slots.{slot_filled, slot_along, implementation_along, class_target, virtual_in, lists, implementer_along, interface_target, target}
use Rattle.cil_model.specs.Assignable.{array_of, element_named, element_of_class, type_of_class, is_class_assignable, is_element_assignable, is_assignable}
use Rattle.cil_model.specs.Bodies.{code_of, virtual_reference}
use Rattle.cil_model.specs.FlowRules.{is_concrete}
use Rattle.cil_model.specs.Legality.{IsLegal, has_repeat, same_method, is_filled_abstract}
use Rattle.cil_model.proofs.CompleteLaws.{chain_of_base}
use Rattle.cil_model.proofs.Lists.{none_is_some, find_passes}
use Rattle.cil_model.proofs.SameLaws.{never, both_first, both_second, either, if_true, if_false, same_options_equal, same_class_equal, same_class_itself, same_signature_equal, same_signature_itself, same_method_name_equal, same_method_name_itself, not_both}
use Rattle.cil_model.proofs.ChainLaws.{none_chain}
use Rattle.reference_machine.proofs.Programs.DeclaredClasses.{found_fails, interface_has_no_base, methods_differ, listed_is_interface, base_is_class, implements_listed, no_abstract_slot}

-- a virtual call on an object of a class that has objects finds a method with code, of the same signature, of a class of its chain
abbrev pub TargetsRun : Tree → Type 0
TargetsRun tree =
    (d owner : ClassName) (name : List ℕ) (signature : Signature) (c : ClassName) (m : Method) → IsTrue (is_concrete tree d) → (is_interface tree d ≢ true) →
    find_method tree true (virtual_reference owner name signature) ≡ Some (c, m) → IsTrue (is_virtual m.kind) → IsTrue (is_assignable tree (type_of_class d) (type_of_class owner)) →
    (k : ClassName) × (m' : Method) × (code : Code) × (target tree d c m ≡ Some (k, m')) × (code_of m'.kind ≡ Some code) × (m'.signature ≡ m.signature) × (is_static m'.kind ≡ false) × IsTrue (is_assignable tree (type_of_class d) (type_of_class k))

-- no virtual method is found for a string or an array
abbrev pub NoVirtuals : Tree → Type 0
NoVirtuals tree =
    (own : DeclaredType) (owner : ClassName) (name : List ℕ) (signature : Signature) (c : ClassName) (m : Method) → ((own ≡ plain String) ⊎ ((t : DeclaredType) × (own ≡ array_of t))) →
    find_method tree true (virtual_reference owner name signature) ≡ Some (c, m) → IsTrue (is_assignable tree own (type_of_class owner)) → IsTrue (is_virtual m.kind) → ⊥

-- ---- lists of classes

-- what holds of each of the one kind holds of each of the other
pub weaker : {X : Type 0} (p q : X → Bool) → ((x : X) → IsTrue (p x) → IsTrue (q x)) → (xs : List X) → IsTrue (list_any p xs) → IsTrue (list_any q xs)
weaker p q each [] h = never h
weaker {X} p q each (x ∷ xs) h = by_case (either (p x) (list_any p xs) h) (weaker p q each xs)
  where
    by_case : IsTrue (p x) ⊎ IsTrue (list_any p xs) → (IsTrue (list_any p xs) → IsTrue (list_any q xs)) → IsTrue (list_any q (x ∷ xs))
    by_case (inl here) further = or_left _ _ (each x here)
    by_case (inr there) further = or_right _ _ (further there)

-- a test that no class of a list passes fails on each of them
none_at : (test : ClassName → Bool) (cs : List ClassName) (c : ClassName) → list_any test cs ≡ false → IsTrue (list_any (same_class c) cs) → test c ≡ false
none_at test [] c h k = never k
none_at test (d ∷ ds) c h k = by_case (either (same_class c d) (list_any (same_class c) ds) k) (none_at test ds c (or_parts _ _ h).1)
  where
    by_case : IsTrue (same_class c d) ⊎ IsTrue (list_any (same_class c) ds) → (IsTrue (list_any (same_class c) ds) → test c ≡ false) → test c ≡ false
    by_case (inl here) further = subst (λ x. test x ≡ false) (sym (same_class_equal c d here)) (or_parts _ _ h).0
    by_case (inr there) further = further there

-- the nearest is found at a class of the list
pub nearest_at : {X : Type 0} (at : ClassName → Option X) (cs : List ClassName) (c : ClassName) (x : X) → nearest at cs ≡ Some (c, x) → (at c ≡ Some x) × IsTrue (list_any (same_class c) cs)
nearest_at at [] c x h = none_is_some (c, x) h
nearest_at {X} at (d ∷ ds) c x h = by_class (at d) refl h (nearest_at at ds c x)
  where
    by_class : (o : Option X) → at d ≡ o → option_map_or (λ y. Some (d, y)) o (nearest at ds) ≡ Some (c, x) →
        (nearest at ds ≡ Some (c, x) → (at c ≡ Some x) × IsTrue (list_any (same_class c) ds)) → (at c ≡ Some x) × IsTrue (list_any (same_class c) (d ∷ ds))
    by_class None e k later = let found = later k in (found.0, or_right _ _ found.1)
    by_class (Some y) e k later = subst (λ (p : ClassName × X). (at p.0 ≡ Some p.1) × IsTrue (list_any (same_class p.0) (d ∷ ds))) (same_Some (d, y) (c, x) k) (e, or_left _ _ (same_class_itself d))

-- what holds of System.String and System.Object holds of a class that is one of them
pub by_plain : (P : ClassName → Type 0) → P string_name → P object_name → (c : ClassName) → IsTrue (list_any (same_class c) (string_name ∷ object_name ∷ [])) → P c
by_plain P string object c h = by_string (either (same_class c string_name) (same_class c object_name || false) h)
  where
    by_object : IsTrue (same_class c object_name) ⊎ IsTrue false → P c
    by_object (inl same) = subst P (sym (same_class_equal c object_name same)) object
    by_object (inr lost) = never lost

    by_string : IsTrue (same_class c string_name) ⊎ IsTrue (same_class c object_name || false) → P c
    by_string (inl same) = subst P (sym (same_class_equal c string_name same)) string
    by_string (inr rest) = by_object (either (same_class c object_name) false rest)

-- what holds of a class, and of each class whose base it holds of, holds of each class in whose chain the class is
pub up_chain : (tree : Tree) (q : ClassName) (P : ClassName → Type 0) → P q → ((c b : ClassName) → base_of tree c ≡ Some b → P b → P c) → (n : ℕ) (c : ClassName) → IsTrue (list_any (same_class q) (chain_within tree n (Some c))) → P c
up_chain tree q P here further zero c h = never h
up_chain tree q P here further (suc n) c h = by_case (either (same_class q c) (list_any (same_class q) (chain_within tree n (base_of tree c))) h) (λ b. up_chain tree q P here further n b)
  where
    by_base : (o : Option ClassName) → base_of tree c ≡ o → IsTrue (list_any (same_class q) (chain_within tree n o)) → ((b : ClassName) → IsTrue (list_any (same_class q) (chain_within tree n (Some b))) → P b) → P c
    by_base None e t above = never (subst (λ cs. IsTrue (list_any (same_class q) cs)) (none_chain tree n) t)
    by_base (Some b) e t above = further c b e (above b t)

    by_case : IsTrue (same_class q c) ⊎ IsTrue (list_any (same_class q) (chain_within tree n (base_of tree c))) → ((b : ClassName) → IsTrue (list_any (same_class q) (chain_within tree n (Some b))) → P b) → P c
    by_case (inl same) above = subst P (same_class_equal q c same) here
    by_case (inr there) above = by_base (base_of tree c) refl there above

-- ---- methods

abbrev pub is_named : MethodName → Signature → Method → Bool
is_named name signature m = same_method_name m.name name && same_signature m.signature signature

pub named_name : (name : MethodName) (signature : Signature) (m : Method) → IsTrue (is_named name signature m) → m.name ≡ name
named_name name signature m h = same_method_name_equal m.name name (both_first _ _ h)

named_signature : (name : MethodName) (signature : Signature) (m : Method) → IsTrue (is_named name signature m) → m.signature ≡ signature
named_signature name signature m h = same_signature_equal m.signature signature (both_second _ _ h)

-- two methods of one name and signature are the same method
named_same : (name : MethodName) (signature : Signature) (x y : Method) → IsTrue (is_named name signature x) → IsTrue (is_named name signature y) → IsTrue (same_method x y)
named_same name signature x y h k = and_from _ _
    (subst (λ z. IsTrue (same_method_name x.name z)) (named_name name signature x h ∙ sym (named_name name signature y k)) (same_method_name_itself x.name))
    (subst (λ z. IsTrue (same_signature x.signature z)) (named_signature name signature x h ∙ sym (named_signature name signature y k)) (same_signature_itself x.signature))

-- where methods differ, a look-up with a further test finds the only one of its name and signature
only_named : (name : MethodName) (signature : Signature) (further : Method → Bool) (ms : List Method) (m : Method) → has_repeat same_method ms ≡ false →
    find (λ x. is_named name signature x && further x) ms ≡ Some m → find (is_named name signature) ms ≡ Some m
only_named name signature further [] m h e = none_is_some m e
only_named name signature further (x ∷ xs) m h e = by_tests (is_named name signature x) (further x) refl e (only_named name signature further xs m (or_parts _ _ h).1)
  where
    test : Method → Bool
    test y = is_named name signature y && further y

    by_tests : (a b : Bool) → is_named name signature x ≡ a → cond (a && b) (Some x) (find test xs) ≡ Some m → (find test xs ≡ Some m → find (is_named name signature) xs ≡ Some m) →
        cond a (Some x) (find (is_named name signature) xs) ≡ Some m
    by_tests true true is k later = k
    by_tests true false is k later =
        not_both (same_method x m) (found_fails test (same_method x) xs m k (or_parts _ _ h).0) (named_same name signature x m is (both_first _ _ (find_passes test xs m k)))
    by_tests false b is k later = later k

module _ (tree : Tree) where
  -- ---- slots

  module _ (name : MethodName) (signature : Signature) where
    -- a virtual method fills a slot
    slot_there : (c : ClassName) (cs : List ClassName) (m : Method) → method_declared tree name signature c ≡ Some m → IsTrue (is_virtual m.kind) → (slot : ClassName) × (slot_along tree name signature (c ∷ cs) ≡ Some slot)
    slot_there c cs m here virtual =
        let inherited : Option ClassName = slot_along tree name signature cs in
        (if is_new_slot_method m.kind then c else unwrap_or inherited c, ap (λ o. option_map_or (slot_filled c inherited) o inherited) here ∙ if_true (is_virtual m.kind) _ _ virtual)

    -- a slot that a class of the chain fills has an implementation
    implementation_there : (slot : ClassName) (before : List ClassName) (c : ClassName) (cs : List ClassName) (m : Method) → method_declared tree name signature c ≡ Some m → slot_along tree name signature (c ∷ cs) ≡ Some slot →
        (found : ClassName × Method) × (implementation_along tree name signature slot (before ++ c ∷ cs) ≡ Some found)
    implementation_there slot [] c cs m here fills =
        let same : IsTrue (same_options same_class (slot_along tree name signature (c ∷ cs)) (Some slot)) = subst (λ o. IsTrue (same_options same_class o (Some slot))) (sym fills) (same_class_itself slot) in (
          (c, m),
          ap (λ o. option_map_or (λ x. if same_options same_class (slot_along tree name signature (c ∷ cs)) (Some slot) then Some (c, x) else implementation_along tree name signature slot cs) o (implementation_along tree name signature slot cs)) here ∙
              if_true _ _ _ same,
        )
    implementation_there slot (d ∷ ds) c cs m here fills =
        by_class (method_declared tree name signature d) (same_options same_class (slot_along tree name signature (d ∷ rest)) (Some slot)) (implementation_there slot ds c cs m here fills)
      where
        rest : List ClassName
        rest = ds ++ c ∷ cs

        by_class : (o : Option Method) (b : Bool) → (found : ClassName × Method) × (implementation_along tree name signature slot rest ≡ Some found) →
            (found : ClassName × Method) × (option_map_or (λ x. if b then Some (d, x) else implementation_along tree name signature slot rest) o (implementation_along tree name signature slot rest) ≡ Some found)
        by_class (Some x) true later = ((d, x), refl)
        by_class _ _ later = later

    slot_is_virtual : (c : ClassName) (inherited : Option ClassName) (m : Method) (slot : ClassName) → slot_filled c inherited m ≡ Some slot → IsTrue (is_virtual m.kind)
    slot_is_virtual c inherited m slot h = by_test (is_virtual m.kind) h
      where
        by_test : (b : Bool) → (if b then Some (if is_new_slot_method m.kind then c else unwrap_or inherited c) else None) ≡ Some slot → IsTrue b
        by_test true k = refl
        by_test false k = none_is_some slot k

    -- an implementation is a virtual method of a class of the chain
    abbrev pub IsImplementation : List ClassName → ClassName × Method → Type 0
    IsImplementation cs found = (method_declared tree name signature found.0 ≡ Some found.1) × IsTrue (is_virtual found.1.kind) × IsTrue (list_any (same_class found.0) cs)

    implementation_is : (slot : ClassName) (cs : List ClassName) (found : ClassName × Method) → implementation_along tree name signature slot cs ≡ Some found → IsImplementation cs found
    implementation_is slot [] found h = none_is_some found h
    implementation_is slot (d ∷ ds) found h = by_class (method_declared tree name signature d) refl (same_options same_class (slot_along tree name signature (d ∷ ds)) (Some slot)) refl h (implementation_is slot ds found)
      where
        following : IsImplementation ds found → IsImplementation (d ∷ ds) found
        following is = (is.0, is.1, or_right _ _ is.2)

        by_class : (o : Option Method) → method_declared tree name signature d ≡ o → (b : Bool) → same_options same_class (slot_along tree name signature (d ∷ ds)) (Some slot) ≡ b →
            option_map_or (λ x. if b then Some (d, x) else implementation_along tree name signature slot ds) o (implementation_along tree name signature slot ds) ≡ Some found →
            (implementation_along tree name signature slot ds ≡ Some found → IsImplementation ds found) → IsImplementation (d ∷ ds) found
        by_class (Some x) e true same k later =
            let inherited : Option ClassName = slot_along tree name signature ds in
            let fills : slot_filled d inherited x ≡ Some slot = sym (ap (λ o. option_map_or (slot_filled d inherited) o inherited) e) ∙ same_options_equal same_class same_class_equal _ _ same in
            subst (IsImplementation (d ∷ ds)) (same_Some (d, x) found k) (e, slot_is_virtual d inherited x slot fills, or_left _ _ (same_class_itself d))
        by_class _ e _ same k later = following (later k)

    -- so is what a class or an interface finds
    class_target_is : (d c : ClassName) (found : ClassName × Method) → class_target tree name signature d c ≡ Some found → IsImplementation (chain_of tree d) found
    class_target_is d c found h = option_and_then_some _ (slot_along tree name signature (chain_of tree c)) found h (λ slot e f. implementation_is slot (chain_of tree d) found f)

    interface_target_is : (d i : ClassName) (found : ClassName × Method) → interface_target tree name signature d i ≡ Some found → IsImplementation (chain_of tree d) found
    interface_target_is d i found h = option_and_then_some _ (implementer_along tree name signature i (chain_of tree d)) found h (λ implementer e f.
        option_and_then_some _ (nearest (virtual_in tree name signature) (chain_of tree implementer)) found f (λ declared e' g. class_target_is d declared.0 found g))

  -- the target of a method that isn't virtual is itself, and that of a virtual one is an implementation of its name and signature
  pub target_is : (d c : ClassName) (m : Method) (found : ClassName × Method) → target tree d c m ≡ Some found → ((is_virtual m.kind ≡ false) × ((c, m) ≡ found)) ⊎ IsImplementation m.name m.signature (chain_of tree d) found
  target_is d c m found h = by_kind (is_virtual m.kind) (is_interface tree c) refl h
    where
      by_kind : (v w : Bool) → is_virtual m.kind ≡ v → (if v then (if w then interface_target tree m.name m.signature d c else class_target tree m.name m.signature d c) else Some (c, m)) ≡ Some found →
          ((is_virtual m.kind ≡ false) × ((c, m) ≡ found)) ⊎ IsImplementation m.name m.signature (chain_of tree d) found
      by_kind true true e k = inr (interface_target_is m.name m.signature d c found k)
      by_kind true false e k = inr (class_target_is m.name m.signature d c found k)
      by_kind false w e k = inl (e, same_Some (c, m) found k)

  -- ---- chains

  -- the chain of a class ends with that of another
  abbrev EndsWith : ClassName → ClassName → Type 0
  EndsWith c q = (before : List ClassName) × (chain_of tree c ≡ before ++ chain_of tree q)

  -- what is in the chain of an end is in the whole chain
  in_whole : (p : ClassName → Bool) (c q : ClassName) → EndsWith c q → IsTrue (list_any p (chain_of tree q)) → IsTrue (list_any p (chain_of tree c))
  in_whole p c q (before, e) h = subst (λ cs. IsTrue (list_any p cs)) (sym e) (list_any-append p before (chain_of tree q) ∙ or_right _ _ h)

  -- an interface's chain is itself
  interface_chain : (i : ClassName) → is_interface tree i ≡ true → chain_of tree i ≡ i ∷ []
  interface_chain i h = ap (λ o. i ∷ chain_within tree (suc (suc (length tree.classes))) o) (interface_has_no_base tree i h)

  pub interface_holds : (i c : ClassName) → is_interface tree i ≡ true → IsTrue (list_any (same_class c) (chain_of tree i)) → c ≡ i
  interface_holds i c h k = by_case (either (same_class c i) false (subst (λ cs. IsTrue (list_any (same_class c) cs)) (interface_chain i h) k))
    where
      by_case : IsTrue (same_class c i) ⊎ IsTrue false → c ≡ i
      by_case (inl same) = same_class_equal c i same
      by_case (inr lost) = never lost

  -- ---- what a virtual method is found for

  abbrev found_for : MethodName → Signature → Method → Bool
  found_for name signature x = is_named name signature x && same_flag (is_static x.kind) (not true)

  -- System.Object and System.String have no virtual method
  plain_has_none : (c : ClassName) (p : Method → Bool) (m : Method) → IsTrue (list_any (same_class c) (string_name ∷ object_name ∷ [])) → find p (methods_declared tree c) ≡ Some m → is_virtual m.kind ≡ false
  plain_has_none c p m h e = by_plain (λ k. find p (methods_declared tree k) ≡ Some m → is_virtual m.kind ≡ false) (fails string_name refl) (fails object_name refl) c h e
    where
      fails : (k : ClassName) → list_any (λ (x : Method). is_virtual x.kind) (methods_declared tree k) ≡ false → find p (methods_declared tree k) ≡ Some m → is_virtual m.kind ≡ false
      fails k none found = found_fails p (λ (x : Method). is_virtual x.kind) (methods_declared tree k) m found none

  -- so the type of a class with a virtual method in its chain is named by the class
  element_is_class : (owner c : ClassName) (p : Method → Bool) (m : Method) → IsTrue (list_any (same_class c) (chain_of tree owner)) → find p (methods_declared tree c) ≡ Some m → IsTrue (is_virtual m.kind) → element_of_class owner ≡ Class owner
  element_is_class owner c p m among e virtual = by_tests (same_class owner object_name) (same_class owner string_name) refl refl
    where
      by_tests : (v w : Bool) → same_class owner object_name ≡ v → same_class owner string_name ≡ w → element_named v w owner ≡ Class owner
      by_tests true w is_object is_string =
          let above : IsTrue (list_any (same_class c) (object_name ∷ [])) = subst (λ z. IsTrue (list_any (same_class c) (chain_of tree z))) (same_class_equal owner object_name is_object) among in
          not_both (is_virtual m.kind) (plain_has_none c p m (or_right (same_class c string_name) _ above) e) virtual
      by_tests false true is_object is_string =
          not_both (is_virtual m.kind) (plain_has_none c p m (subst (λ z. IsTrue (list_any (same_class c) (chain_of tree z))) (same_class_equal owner string_name is_string) among) e) virtual
      by_tests false false is_object is_string = refl

  -- a class whose type is assignable to another class's, as classes
  below_class : (d owner : ClassName) → IsTrue (is_element_assignable tree (element_of_class d) (Class owner)) → (element_of_class d ≡ Class d) × IsTrue (is_class_assignable tree d owner)
  below_class d owner h = by_name (same_class d object_name) (same_class d string_name) h
    where
      by_name : (v w : Bool) → IsTrue (is_element_assignable tree (element_named v w d) (Class owner)) → (element_named v w d ≡ Class d) × IsTrue (is_class_assignable tree d owner)
      by_name false false k = (refl, k)
      by_name _ _ k = never k

  -- no class but System.Object takes strings or arrays
  pub no_virtuals : NoVirtuals tree
  no_virtuals own owner name signature c m which e fits virtual = by_type which
    where
      among : (find (found_for (Named name) signature) (methods_declared tree c) ≡ Some m) × IsTrue (list_any (same_class c) (chain_of tree owner))
      among = nearest_at (λ k. find (found_for (Named name) signature) (methods_declared tree k)) (chain_of tree owner) c m e

      taken : IsTrue (is_assignable tree own (plain (Class owner)))
      taken = subst (λ x. IsTrue (is_assignable tree own (plain x))) (element_is_class owner c _ m among.1 among.0 virtual) fits

      by_type : ((own ≡ plain String) ⊎ ((t : DeclaredType) × (own ≡ array_of t))) → ⊥
      by_type (inl string) = never (subst (λ t. IsTrue (is_assignable tree t (plain (Class owner)))) string taken)
      by_type (inr (t, array)) = never (subst (λ x. IsTrue (is_assignable tree x (plain (Class owner)))) array taken)

  module _ (legal : IsLegal tree) where
    -- the chain of a class ends with that of each of its classes
    ends_with : (c q : ClassName) → IsTrue (list_any (same_class q) (chain_of tree c)) → EndsWith c q
    ends_with c q = up_chain tree q (λ k. EndsWith k q) ([], refl) (λ k b e end. (k ∷ end.0, chain_of_base tree legal k b e ∙ ap (λ cs. k ∷ cs) end.1)) (longest_chain tree) c

    -- an interface begins each chain that it is in
    interface_first : (n : ℕ) (c i : ClassName) → is_interface tree i ≡ true → IsTrue (list_any (same_class i) (chain_within tree n (Some c))) → i ≡ c
    interface_first n c i h =
        up_chain tree i (λ k. i ≡ k) refl (λ k b e same. not_both (is_interface tree i) (subst (λ z. is_interface tree z ≡ false) (sym same) (base_is_class tree legal k b e)) h) n c

    -- ---- the method that runs

    -- a method with code and this signature, of a class of the chain of d
    abbrev Runs : ClassName → Signature → Option (ClassName × Method) → Type 0
    Runs d signature found =
        (k : ClassName) × (m' : Method) × (code : Code) × (found ≡ Some (k, m')) × (code_of m'.kind ≡ Some code) × (m'.signature ≡ signature) × (is_static m'.kind ≡ false) × IsTrue (is_assignable tree (type_of_class d) (type_of_class k))

    has_code : (kind : MethodKind) → IsTrue (is_virtual kind) → is_abstract_method kind ≡ false → (code : Code) × (code_of kind ≡ Some code) × (is_static kind ≡ false)
    has_code (Virtual is_new_slot code) v a = (code, refl, refl)
    has_code (Abstract is_new_slot) v a = never (sym a)
    has_code _ v a = never v

    second_fails : (a b : Bool) → IsTrue a → (a && b) ≡ false → b ≡ false
    second_fails true b h e = e
    second_fails false b h e = never h

    -- a class is assignable to a class of its chain with a virtual method
    to_class_above : (d k : ClassName) (p : Method → Bool) (m : Method) → element_of_class d ≡ Class d → IsTrue (list_any (same_class k) (chain_of tree d)) → find p (methods_declared tree k) ≡ Some m → IsTrue (is_virtual m.kind) → IsTrue (is_assignable tree (type_of_class d) (type_of_class k))
    to_class_above d k p m own among e virtual =
        let named : element_of_class k ≡ Class k = element_is_class k k p m (or_left _ _ (same_class_itself k)) e virtual in
        let link : IsTrue (is_class_assignable tree d k) = weaker (same_class k) (λ x. same_class x k || list_any (same_class k) (interfaces_declared tree x)) (λ x same. or_left _ _ (subst (λ z. IsTrue (same_class z k)) (same_class_equal k x same) (same_class_itself k))) (chain_of tree d) among in
        subst (λ x. IsTrue (is_element_assignable tree x (element_of_class k))) (sym own) (subst (λ x. IsTrue (is_element_assignable tree (Class d) x)) (sym named) link)

    module _ (d : ClassName) (concrete : IsTrue (is_concrete tree d)) (own : element_of_class d ≡ Class d) (f : ClassName) (among : IsTrue (list_any (same_class f) (chain_of tree d))) where
      -- the slot of a virtual method of a class of the chain has an implementation
      target_there : (name : MethodName) (signature : Signature) (m : Method) → method_declared tree name signature f ≡ Some m → IsTrue (is_virtual m.kind) →
          (found : ClassName × Method) × (class_target tree name signature d f ≡ Some found) × IsImplementation name signature (chain_of tree d) found
      target_there name signature m here virtual =
          let rest : List ClassName = chain_within tree (suc (suc (length tree.classes))) (base_of tree f) in
          let slot = slot_there name signature f rest m here virtual in
          let end : EndsWith d f = ends_with d f among in
          let implementation = implementation_there name signature slot.0 end.0 f rest m here slot.1 in
          let fills : implementation_along tree name signature slot.0 (chain_of tree d) ≡ Some implementation.0 = ap (implementation_along tree name signature slot.0) end.1 ∙ implementation.1 in
          (implementation.0, ap (option_and_then (λ s. implementation_along tree name signature s (chain_of tree d))) slot.1 ∙ fills, implementation_is name signature slot.0 (chain_of tree d) implementation.0 fills)

      -- which isn't abstract
      target_not_abstract : (name : MethodName) (signature : Signature) (m : Method) → method_declared tree name signature f ≡ Some m → IsTrue (is_virtual m.kind) →
          (found : ClassName × Method) → class_target tree name signature d f ≡ Some found → is_abstract_method found.1.kind ≡ false
      target_not_abstract name signature m here virtual found e =
          let opens : Method → Bool = λ x. is_virtual x.kind && is_filled_abstract (class_target tree x.name x.signature d f) in
          let none : list_any opens (methods_declared tree f) ≡ false = none_at (λ k. list_any (λ (x : Method). is_virtual x.kind && is_filled_abstract (class_target tree x.name x.signature d k)) (methods_declared tree k)) (chain_of tree d) f (no_abstract_slot tree legal d concrete) among in
          let filled : is_filled_abstract (class_target tree m.name m.signature d f) ≡ false = second_fails (is_virtual m.kind) _ virtual (found_fails (is_named name signature) opens (methods_declared tree f) m here none) in
          let is : IsTrue (is_named name signature m) = find_passes (is_named name signature) (methods_declared tree f) m here in
          let same : class_target tree m.name m.signature d f ≡ class_target tree name signature d f = ap (λ n. class_target tree n m.signature d f) (named_name name signature m is) ∙ ap (λ s. class_target tree name s d f) (named_signature name signature m is) in
          sym (ap is_filled_abstract (same ∙ e)) ∙ filled

      class_runs : (name : MethodName) (signature : Signature) (m : Method) → method_declared tree name signature f ≡ Some m → IsTrue (is_virtual m.kind) → Runs d signature (class_target tree name signature d f)
      class_runs name signature m here virtual =
          let there = target_there name signature m here virtual in
          let found : ClassName × Method = there.0 in
          let implementation : IsImplementation name signature (chain_of tree d) found = there.2 in
          let body = has_code found.1.kind implementation.1 (target_not_abstract name signature m here virtual found there.1) in (
            found.0,
            found.1,
            body.0,
            there.1,
            body.1,
            named_signature name signature found.1 (find_passes (is_named name signature) (methods_declared tree found.0) found.1 implementation.0),
            body.2,
            to_class_above d found.0 (is_named name signature) found.1 own implementation.2 implementation.0 implementation.1,
          )

    -- what is found under a name has that name
    own_name : (name : MethodName) (signature : Signature) (c : ClassName) (m : Method) → method_declared tree name signature c ≡ Some m → method_declared tree m.name m.signature c ≡ Some m
    own_name name signature c m h =
        let is : IsTrue (is_named name signature m) = find_passes (is_named name signature) (methods_declared tree c) m h in
        ap (λ n. method_declared tree n m.signature c) (named_name name signature m is) ∙ ap (λ s. method_declared tree name s c) (named_signature name signature m is) ∙ h

    virtual_is : (name : MethodName) (signature : Signature) (c : ClassName) (m : Method) → virtual_in tree name signature c ≡ Some m → (method_declared tree name signature c ≡ Some m) × IsTrue (is_virtual m.kind)
    virtual_is name signature c m h = by_method (method_declared tree name signature c) refl h
      where
        by_kind : (x : Method) (v : Bool) → is_virtual x.kind ≡ v → (if v then Some x else None) ≡ Some m → method_declared tree name signature c ≡ Some x → (method_declared tree name signature c ≡ Some m) × IsTrue (is_virtual m.kind)
        by_kind x true is k e = subst (λ y. (method_declared tree name signature c ≡ Some y) × IsTrue (is_virtual y.kind)) (same_Some x m k) (e, is)
        by_kind x false is k e = none_is_some m k

        by_method : (o : Option Method) → method_declared tree name signature c ≡ o → option_and_then (λ (x : Method). if is_virtual x.kind then Some x else None) o ≡ Some m → (method_declared tree name signature c ≡ Some m) × IsTrue (is_virtual m.kind)
        by_method None e k = none_is_some m k
        by_method (Some x) e k = by_kind x (is_virtual x.kind) refl k e

    module _ (name : MethodName) (signature : Signature) where
      -- the nearest class of a chain that lists the interface
      abbrev Implementer : ClassName → List ClassName → Type 0
      Implementer i cs = (k : ClassName) × (implementer_along tree name signature i cs ≡ Some k) × IsTrue (list_any (same_class k) cs) × IsTrue (lists tree name signature i k)

      -- a class is in a chain, or a class of the chain lists it
      met_or_listed : (i : ClassName) (cs : List ClassName) → IsTrue (list_any (λ k. same_class k i || list_any (same_class i) (interfaces_declared tree k)) cs) → IsTrue (list_any (same_class i) cs) ⊎ Implementer i cs
      met_or_listed i [] h = never h
      met_or_listed i (c ∷ cs) h = by_test (lists_it c) refl (met_or_listed i cs)
        where
          lists_it : ClassName → Bool
          lists_it k = list_any (same_class i) (interfaces_declared tree k)

          MetAfter : Type 0
          MetAfter = IsTrue (list_any (λ k. same_class k i || lists_it k) cs) → IsTrue (list_any (same_class i) cs) ⊎ Implementer i cs

          later : IsTrue (list_any (same_class i) cs) ⊎ Implementer i cs → lists_it c ≡ false → IsTrue (list_any (same_class i) (c ∷ cs)) ⊎ Implementer i (c ∷ cs)
          later (inl met) no_implementer = inl (or_right _ _ met)
          later (inr (k, e, among, is)) no_implementer = inr (k, if_false (lists_it c) _ _ no_implementer ∙ e, or_right _ _ among, is)

          here : IsTrue (same_class c i) ⊎ IsTrue (lists_it c) → lists_it c ≡ false → IsTrue (list_any (same_class i) (c ∷ cs)) ⊎ Implementer i (c ∷ cs)
          here (inl same) no_implementer = inl (or_left _ _ (subst (λ z. IsTrue (same_class z c)) (same_class_equal c i same) (same_class_itself c)))
          here (inr is) no_implementer = not_both (lists_it c) no_implementer is

          by_index : IsTrue (same_class c i || lists_it c) ⊎ IsTrue (list_any (λ k. same_class k i || lists_it k) cs) → lists_it c ≡ false → MetAfter → IsTrue (list_any (same_class i) (c ∷ cs)) ⊎ Implementer i (c ∷ cs)
          by_index (inl first) no_implementer following = here (either (same_class c i) (lists_it c) first) no_implementer
          by_index (inr rest) no_implementer following = later (following rest) no_implementer

          by_test : (b : Bool) → lists_it c ≡ b → MetAfter → IsTrue (list_any (same_class i) (c ∷ cs)) ⊎ Implementer i (c ∷ cs)
          by_test true is following = inr (c, if_true (lists_it c) _ _ is, or_left _ _ (same_class_itself c), is)
          by_test false is following = by_index (either (same_class c i || lists_it c) (list_any (λ k. same_class k i || lists_it k) cs) h) is following

    module _ (d : ClassName) (concrete : IsTrue (is_concrete tree d)) (own : element_of_class d ≡ Class d) where
      -- an interface's method is implemented along the chain of the nearest class that lists it
      interface_runs : (i : ClassName) (m : Method) → method_declared tree m.name m.signature i ≡ Some m → Implementer m.name m.signature i (chain_of tree d) → Runs d m.signature (interface_target tree m.name m.signature d i)
      interface_runs i m here (k, nearest_implementer, among, is) = by_found (nearest (virtual_in tree m.name m.signature) (chain_of tree k)) refl (implements_listed tree legal k i m is (is_named m.name m.signature) here)
        where
          by_found : (o : Option (ClassName × Method)) → nearest (virtual_in tree m.name m.signature) (chain_of tree k) ≡ o → IsTrue (is_some o) → Runs d m.signature (interface_target tree m.name m.signature d i)
          by_found None e there = never there
          by_found (Some (f, x)) e there =
              let found = nearest_at (virtual_in tree m.name m.signature) (chain_of tree k) f x e in
              let virtual = virtual_is m.name m.signature f x found.0 in
              let above : IsTrue (list_any (same_class f) (chain_of tree d)) = in_whole (same_class f) d k (ends_with d k among) found.1 in
              let through : option_and_then (λ (p : ClassName × Method). class_target tree m.name m.signature d p.0) (nearest (virtual_in tree m.name m.signature) (chain_of tree k)) ≡ class_target tree m.name m.signature d f = ap (option_and_then (λ (p : ClassName × Method). class_target tree m.name m.signature d p.0)) e in
              let same : interface_target tree m.name m.signature d i ≡ class_target tree m.name m.signature d f =
              ap (option_and_then (λ z. option_and_then (λ (p : ClassName × Method). class_target tree m.name m.signature d p.0) (nearest (virtual_in tree m.name m.signature) (chain_of tree z)))) nearest_implementer ∙ through in
              subst (Runs d m.signature) (sym same) (class_runs d concrete own f above m.name m.signature x virtual.0 virtual.1)

      module _ (is_class : is_interface tree d ≢ true) (owner c : ClassName) (m : Method) (here : method_declared tree m.name m.signature c ≡ Some m) (virtual : IsTrue (is_virtual m.kind)) (searched : IsTrue (list_any (same_class c) (chain_of tree owner))) where
        by_interface : (v : Bool) → is_interface tree c ≡ v → IsTrue (list_any (same_class owner) (chain_of tree d)) ⊎ Implementer m.name m.signature owner (chain_of tree d) →
            Runs d m.signature (if v then interface_target tree m.name m.signature d c else class_target tree m.name m.signature d c)
        by_interface false e (inl met) = class_runs d concrete own c (in_whole (same_class c) d owner (ends_with d owner met) searched) m.name m.signature m here virtual
        by_interface false e (inr (k, nearest_implementer, among, is)) =
            let listed : is_interface tree owner ≡ true = listed_is_interface tree legal k owner is in
            not_both (is_interface tree c) e (subst (λ z. is_interface tree z ≡ true) (sym (interface_holds owner c listed searched)) listed)
        by_interface true e met = by_owner (interface_first (longest_chain tree) owner c e searched) met
          where
            by_owner : c ≡ owner → IsTrue (list_any (same_class owner) (chain_of tree d)) ⊎ Implementer m.name m.signature owner (chain_of tree d) → Runs d m.signature (interface_target tree m.name m.signature d c)
            by_owner same (inl met') =
                let first : c ≡ d = interface_first (longest_chain tree) d c e (subst (λ z. IsTrue (list_any (same_class z) (chain_of tree d))) (sym same) met') in
                absurd (is_class (subst (λ z. is_interface tree z ≡ true) first e))
            by_owner same (inr implementer) = interface_runs c m here (subst (λ z. Implementer m.name m.signature z (chain_of tree d)) (sym same) implementer)

    -- a virtual call on an object of a class that has objects finds a method with code
    pub targets_run : TargetsRun tree
    targets_run d owner name signature c m concrete is_class e virtual fits =
        let found = nearest_at (λ k. find (found_for (Named name) signature) (methods_declared tree k)) (chain_of tree owner) c m e in
        let there : method_declared tree (Named name) signature c ≡ Some m = only_named (Named name) signature (λ (x : Method). same_flag (is_static x.kind) (not true)) (methods_declared tree c) m (methods_differ tree legal c) found.0 in
        let here : method_declared tree m.name m.signature c ≡ Some m = own_name (Named name) signature c m there in
        let owner_type : element_of_class owner ≡ Class owner = element_is_class owner c _ m found.1 found.0 virtual in
        let below = below_class d owner (subst (λ x. IsTrue (is_element_assignable tree (element_of_class d) x)) owner_type fits) in
        let runs = by_interface d concrete below.0 is_class owner c m here virtual found.1 (is_interface tree c) refl (met_or_listed m.name m.signature owner (chain_of tree d) below.1) in
        subst (Runs d m.signature) (sym (if_true (is_virtual m.kind) _ _ virtual)) runs

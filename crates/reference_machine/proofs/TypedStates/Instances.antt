-- What an object is whose type is known: an object of a class, where no string and no array is of the type.
use Rattle.std.proofs.Common.{◌≡◌, ◌≢◌, ◌⊎◌, ℕ, Bool, true, false, not, ◌||◌, IsTrue, Option, Some, None, option_map, option_and_then, slice_get, refl, inl, inr, sym, ap, ◌∙◌, subst}
use Rattle.std.specs.Prelude.{IsSome}
use Rattle.std.specs.List.{list_any}
use Rattle.std.proofs.lemmas.Option.{same_Some}
use Rattle.cil_model.specs.declared.types.ClassName.{ClassName}
use Rattle.cil_model.specs.declared.types.DeclaredType.{DeclaredType}
use Rattle.cil_model.specs.declared.types.Element.TheVariants.{String, Class}
use Rattle.cil_model.specs.declared.trees.Tree.{Tree}
use Rattle.cil_model.specs.Same.{same_class}
use Rattle.cil_model.specs.Declarations.{object_name, string_name, thread_name, plain}
use Rattle.cil_model.specs.Chains.{chain_of, interfaces_declared, is_interface, is_thread_class}
use Rattle.cil_model.specs.Assignable.{to_itself, array_of, element_named, type_of_class, is_assignable}
use Rattle.cil_model.specs.FlowRules.{is_concrete}
use Rattle.cil_model.specs.Legality.{IsLegal}
use Rattle.cil_model.proofs.Lists.{none_is_some}
use Rattle.cil_model.proofs.SameLaws.{never, both_second, either, same_class_equal, same_class_itself}
use Rattle.cil_model.proofs.CompleteLaws.{test_is_complete}
use Rattle.reference_machine.specs.Values.{ObjectName, Born, Literal, Reference}
use Rattle.reference_machine.specs.States.{Contents, Instance, Array, HeapObject, State, object_at, type_of_contents, type_of, class_of_contents, class_of, monitor_of}
use Rattle.reference_machine.specs.TypedStates.{IsObjectOf, HasType, has_objects, IsTypedContents, IsTyped}
use Rattle.reference_machine.proofs.Programs.DeclaredClasses.{listed_is_interface}
use Rattle.reference_machine.proofs.Programs.VirtualTargets.{weaker}

-- an object of a class that has objects, whose type is assignable to the type
pub record IsInstanceOf (tree : Tree) (s : State) (n : ObjectName) (t : DeclaredType) : Type 0 where
  pub own : ClassName
  pub object : HeapObject
  pub there : object_at s n ≡ Some object
  pub is : class_of s n ≡ Some own
  pub type : type_of s n ≡ Some (type_of_class own)
  pub has : IsTrue (has_objects tree own)
  pub no_interface : is_interface tree own ≢ true
  pub fits : IsTrue (is_assignable tree (type_of_class own) t)
  pub monitor : IsSome (monitor_of s n)

-- it is of its own class
pub instance_typed : (tree : Tree) → IsLegal tree → (s : State) (n : ObjectName) {t : DeclaredType} (h : IsInstanceOf tree s n t) → HasType tree s (Reference n) (type_of_class h.own)
instance_typed tree legal s n h = record { own = type_of_class h.own; is = h.type; fits = test_is_complete tree legal (type_of_class h.own) (type_of_class h.own) to_itself; monitor = h.monitor }

-- `string`, or an array
abbrev pub IsStringOrArray : DeclaredType → Type 0
IsStringOrArray own = (own ≡ plain String) ⊎ ((t : DeclaredType) × (own ≡ array_of t))

module _ (tree : Tree) (s : State) (typed : IsTyped tree s) where
  -- where neither is of the type, each object of the type is of a class
  pub instance_of : (n : ObjectName) (t : DeclaredType) → IsObjectOf tree s n t → ((own : DeclaredType) → IsStringOrArray own → IsTrue (is_assignable tree own t) → ⊥) → IsInstanceOf tree s n t
  instance_of (Literal characters) t h neither = absurd (neither h.own (inl (sym (same_Some (plain String) h.own h.is))) h.fits)
  instance_of (Born n) t h neither = by_object (slice_get s.objects n) refl h.is
    where
      with_contents : (o : HeapObject) → slice_get s.objects n ≡ Some o → (c : Contents) → o.contents ≡ c → type_of_contents c ≡ h.own → IsTypedContents tree s c → IsInstanceOf tree s (Born n) t
      with_contents o there (Array e elements) held own contents = absurd (neither h.own (inr (e, sym own)) h.fits)
      with_contents o there (Instance c fields) held own contents = record {
        own = c;
        object = o;
        there = there;
        is = ap (option_and_then (λ (x : HeapObject). class_of_contents x.contents)) there ∙ ap class_of_contents held;
        type = h.is ∙ ap Some (sym own);
        has = contents.0;
        no_interface = contents.1;
        fits = subst (λ x. IsTrue (is_assignable tree x t)) (sym own) h.fits;
        monitor = h.monitor;
      }

      by_object : (found : Option HeapObject) → slice_get s.objects n ≡ found → option_map (λ (x : HeapObject). type_of_contents x.contents) found ≡ Some h.own → IsInstanceOf tree s (Born n) t
      by_object None there e = none_is_some h.own e
      by_object (Some o) there e = with_contents o there o.contents refl (same_Some (type_of_contents o.contents) h.own e) (typed.objects n o there)

  -- no object is a string but a literal
  pub string_is_literal : (n : ℕ) → IsObjectOf tree s (Born n) (plain String) → ⊥
  string_is_literal n h = by_object (slice_get s.objects n) refl h.is
    where
      of_class : (c : ClassName) → IsTrue (has_objects tree c) → IsTrue (is_assignable tree (type_of_class c) (plain String)) → ⊥
      of_class c has fits = by_name (same_class c object_name) (same_class c string_name) (both_second (is_concrete tree c) (not (same_class c string_name)) has) fits
        where
          by_name : (v w : Bool) → IsTrue (not w) → IsTrue (is_assignable tree (plain (element_named v w c)) (plain String)) → ⊥
          by_name false true k e = never k
          by_name _ _ k e = never e

      by_contents : (c : Contents) → type_of_contents c ≡ h.own → IsTypedContents tree s c → ⊥
      by_contents (Array t elements) e contents = never (subst (λ x. IsTrue (is_assignable tree x (plain String))) (sym e) h.fits)
      by_contents (Instance c fields) e contents = of_class c contents.0 (subst (λ x. IsTrue (is_assignable tree x (plain String))) (sym e) h.fits)

      by_object : (found : Option HeapObject) → slice_get s.objects n ≡ found → option_map (λ (x : HeapObject). type_of_contents x.contents) found ≡ Some h.own → ⊥
      by_object None there e = none_is_some h.own e
      by_object (Some o) there e = by_contents o.contents (same_Some (type_of_contents o.contents) h.own e) (typed.objects n o there)

-- ---- threads

module _ (tree : Tree) where
  -- a string or an array is no thread
  pub thread_is_neither : (own : DeclaredType) → IsStringOrArray own → IsTrue (is_assignable tree own (plain (Class thread_name))) → ⊥
  thread_is_neither own (inl e) h = never (subst (λ x. IsTrue (is_assignable tree x (plain (Class thread_name)))) e h)
  thread_is_neither own (inr (t, e)) h = never (subst (λ x. IsTrue (is_assignable tree x (plain (Class thread_name)))) e h)

  module _ (legal : IsLegal tree) where
    -- no class lists Cilvm.Thread as an interface
    link_is_thread : (k : ClassName) → IsTrue (same_class k thread_name || list_any (same_class thread_name) (interfaces_declared tree k)) → IsTrue (same_class thread_name k)
    link_is_thread k h = by_case (either _ _ h)
      where
        by_case : IsTrue (same_class k thread_name) ⊎ IsTrue (list_any (same_class thread_name) (interfaces_declared tree k)) → IsTrue (same_class thread_name k)
        by_case (inl same) = subst (λ x. IsTrue (same_class x k)) (same_class_equal k thread_name same) (same_class_itself k)
        by_case (inr lists) = never (listed_is_interface tree legal k thread_name lists)

    -- what is assignable to Cilvm.Thread has it in its chain
    pub assignable_is_thread : (c : ClassName) → IsTrue (is_assignable tree (type_of_class c) (plain (Class thread_name))) → IsTrue (is_thread_class tree c)
    assignable_is_thread c h = by_name (same_class c object_name) (same_class c string_name) h
      where
        by_name : (v w : Bool) → IsTrue (is_assignable tree (plain (element_named v w c)) (plain (Class thread_name))) → IsTrue (is_thread_class tree c)
        by_name false false k = weaker (λ x. same_class x thread_name || list_any (same_class thread_name) (interfaces_declared tree x)) (same_class thread_name) link_is_thread (chain_of tree c) k
        by_name _ _ k = never k

-- What a reference to a method finds: a method that a class of the owner's chain declares, of the signature that is named.
use Rattle.std.proofs.Common.{◌≡◌, ℕ, Bool, true, false, not, if◌then◌else◌, ◌&&◌, IsTrue, List, [], ◌∷◌, find, Some, refl, sym, ap, subst}
use Rattle.std.specs.List.{list_any}
use Rattle.std.proofs.lemmas.Option.{same_Some}
use Rattle.cil_model.specs.declared.types.ClassName.{ClassName}
use Rattle.cil_model.specs.declared.types.DeclaredType.{DeclaredType}
use Rattle.cil_model.specs.declared.types.Element.TheVariants.{String, Class}
use Rattle.cil_model.specs.declared.instructions.MethodName.{MethodName}
use Rattle.cil_model.specs.declared.instructions.MethodName.TheVariants.{Constructor, Named}
use Rattle.cil_model.specs.declared.instructions.MethodReference.{MethodReference}
use Rattle.cil_model.specs.declared.trees.Tree.{Tree}
use Rattle.cil_model.specs.declared.trees.Method.{Method}
use Rattle.cil_model.specs.Same.{same_flag, same_class, same_signature, same_method_name}
use Rattle.cil_model.specs.Declarations.{object_name, string_name, plain}
use Rattle.cil_model.specs.Chains.{base_of, chain_within, longest_chain, classes_searched, is_static, methods_declared, find_method}
use Rattle.cil_model.specs.Assignable.{IsAssignable, to_itself, to_object, chained, is_assignable, element_named, type_of_class}
use Rattle.cil_model.specs.Bodies.{argument_types, reference_operands}
use Rattle.cil_model.specs.TypeTree.{Declared, parent_element}
use Rattle.cil_model.specs.Legality.{IsLegal}
use Rattle.cil_model.proofs.Lists.{none_is_some, find_passes}
use Rattle.cil_model.proofs.SameLaws.{both_first, both_second, same_class_equal, same_signature_equal, same_flag_equal}
use Rattle.cil_model.proofs.AssignableLaws.{test_is_sound}
use Rattle.cil_model.proofs.CompleteLaws.{test_is_complete}
use Rattle.cil_model.proofs.FitsLaws.{below_fits}
use Rattle.reference_machine.specs.Values.{Value}
use Rattle.reference_machine.specs.States.{State}
use Rattle.reference_machine.proofs.Programs.MethodTypings.{IsDeclared, found_is_declared}
use Rattle.reference_machine.specs.TypedStates.{HasType, HaveTypes}
use Rattle.reference_machine.proofs.Programs.VirtualTargets.{nearest_at, up_chain}
use Rattle.reference_machine.proofs.TypedStates.StackOperands.{value_fits}

-- ---- up a chain

module _ (tree : Tree) (legal : IsLegal tree) where
  -- an object of a class is one of its base
  base_above : (c b : ClassName) → base_of tree c ≡ Some b → IsAssignable tree (type_of_class c) (type_of_class b)
  base_above c b e = by_name (same_class c object_name) (same_class c string_name) refl refl
    where
      by_name : (v w : Bool) → same_class c object_name ≡ v → same_class c string_name ≡ w → IsAssignable tree (plain (element_named v w c)) (type_of_class b)
      by_name true w is is' = none_is_some b (subst (λ x. base_of tree x ≡ Some b) (same_class_equal c object_name is) e)
      by_name false true is is' =
          let same : object_name ≡ b = same_Some object_name b (subst (λ x. base_of tree x ≡ Some b) (same_class_equal c string_name is') e) in
          subst (λ x. IsAssignable tree (plain String) (type_of_class x)) same (to_object refl)
      by_name false false is is' = test_is_sound tree (plain (Class c)) (type_of_class b) (below_fits tree legal (Declared (plain (Class c))) (type_of_class b) (1, ap (λ o. Some (plain (parent_element o))) e))

  -- and of each class of its chain
  chain_above : (n : ℕ) (c d : ClassName) → IsTrue (list_any (same_class d) (chain_within tree n (Some c))) → IsAssignable tree (type_of_class c) (type_of_class d)
  chain_above n c d = up_chain tree d (λ k. IsAssignable tree (type_of_class k) (type_of_class d)) to_itself (λ k b e further. chained (base_above k b e) further) n c

-- ---- what is found

-- a method that a class declares, as a reference names it
pub record IsFound (tree : Tree) (is_instance : Bool) (r : MethodReference) (c : ClassName) (m : Method) : Type 0 where
  pub declared : IsDeclared tree c m
  pub signature : m.signature ≡ r.signature
  pub static : is_static m.kind ≡ not is_instance
  pub above : IsTrue (is_assignable tree (type_of_class r.owner) (type_of_class c))

module _ (tree : Tree) (legal : IsLegal tree) (is_instance : Bool) (r : MethodReference) (c : ClassName) (m : Method) where
  -- a class that is searched is the owner or above it
  searched_above : (name : MethodName) → IsTrue (list_any (same_class c) (classes_searched tree name r.owner)) → IsAssignable tree (type_of_class r.owner) (type_of_class c)
  searched_above Constructor h = chain_above tree legal 1 r.owner c h
  searched_above (Named name) h = chain_above tree legal (longest_chain tree) r.owner c h

  -- what is found is as the reference names it
  pub found : find_method tree is_instance r ≡ Some (c, m) → IsFound tree is_instance r c m
  found h =
      let fits : Method → Bool = λ x. same_method_name x.name r.name && same_signature x.signature r.signature && same_flag (is_static x.kind) (not is_instance) in
      let at : (find fits (methods_declared tree c) ≡ Some m) × IsTrue (list_any (same_class c) (classes_searched tree r.name r.owner)) = nearest_at (λ k. find fits (methods_declared tree k)) (classes_searched tree r.name r.owner) c m h in
      let passes : IsTrue (fits m) = find_passes fits (methods_declared tree c) m at.0 in
      record {
        declared = found_is_declared tree is_instance r c m h;
        signature = same_signature_equal _ _ (both_second _ _ (both_first _ _ passes));
        static = same_flag_equal _ _ (both_second _ _ passes);
        above = test_is_complete tree legal (type_of_class r.owner) (type_of_class c) (searched_above r.name at.1);
      }

-- ---- what it is called with

module _ (tree : Tree) (legal : IsLegal tree) (s : State) where
  -- an object for its parameter `this`, and the arguments that the signature names
  pub arguments_of_instance : (v : Value) (vs : List Value) (own : DeclaredType) (c : ClassName) (m : Method) → is_static m.kind ≡ false → HasType tree s v own → IsTrue (is_assignable tree own (type_of_class c)) →
      HaveTypes tree s vs m.signature.parameters → HaveTypes tree s (v ∷ vs) (argument_types m c)
  arguments_of_instance v vs own c m static this above rest =
      subst (λ b. HaveTypes tree s (v ∷ vs) (if b then m.signature.parameters else type_of_class c ∷ m.signature.parameters)) (sym static)
      (value_fits tree legal s v (Declared own) (type_of_class c) above this, rest)

  -- operands of a reference are arguments of what it finds
  pub operands_are_arguments : (is_instance : Bool) (r : MethodReference) (c : ClassName) (m : Method) → IsFound tree is_instance r c m → (vs : List Value) → HaveTypes tree s vs (reference_operands is_instance r) → HaveTypes tree s vs (argument_types m c)
  operands_are_arguments false r c m found vs h =
      subst (λ b. HaveTypes tree s vs (if b then m.signature.parameters else type_of_class c ∷ m.signature.parameters)) (sym found.static)
      (subst (λ x. HaveTypes tree s vs x.parameters) (sym found.signature) h)
  operands_are_arguments true r c m found [] h = elim h [ ]
  operands_are_arguments true r c m found (v ∷ vs) h =
      arguments_of_instance v vs (type_of_class r.owner) c m found.static h.0 found.above (subst (λ x. HaveTypes tree s vs x.parameters) (sym found.signature) h.1)

-- The flow rule for members, once what their references find is known.
use Rattle.std.proofs.Common.{◌≡◌, ℕ, Bool, true, false, if◌then◌else◌, List, [], ◌∷◌, Option, Some, None, option_map, option_and_then, sym, ap, ◌∙◌}
use Rattle.std.proofs.lemmas.Option.{same_Some}
use Rattle.cil_model.specs.declared.types.ClassName.{ClassName}
use Rattle.cil_model.specs.declared.types.DeclaredType.{DeclaredType}
use Rattle.cil_model.specs.declared.types.Signature.{Signature}
use Rattle.cil_model.specs.declared.trees.Tree.{Tree}
use Rattle.cil_model.specs.declared.trees.Field.{Field}
use Rattle.cil_model.specs.declared.trees.Method.{Method}
use Rattle.cil_model.specs.declared.instructions.FieldReference.{FieldReference}
use Rattle.cil_model.specs.declared.instructions.MethodReference.{MethodReference}
use Rattle.cil_model.specs.declared.instructions.Instruction.TheVariants as Named
use Rattle.cil_model.specs.Assignable.{type_of_class}
use Rattle.cil_model.specs.Bodies.{constructor_reference, virtual_reference, reference_operands}
use Rattle.cil_model.specs.Chains.{find_field, find_method, is_abstract_method}
use Rattle.cil_model.specs.TypeTree.{StackType}
use Rattle.cil_model.specs.TypeTree as OnStack
use Rattle.cil_model.specs.FlowRules.{StackAfter, take_operands, give, is_concrete}
use Rattle.resolved_code.specs.declared.types.ResolvedType.{ResolvedType}
use Rattle.resolved_code.specs.declared.classes.ResolvedMethod.{ResolvedMethod}
use Rattle.flow_rules.specs.StackTypes.{type_named, types_named, stack_types}
use Rattle.flow_rules.specs.Flow.{flow_of}
use Rattle.flow_rules.specs.Members.{IsCallable, operands_named}
use Rattle.flow_rules.specs.declared.entries.StackEntry.{StackEntry}
use Rattle.flow_rules.specs.declared.method_types.MethodTypes.{MethodTypes}
use Rattle.cil_model.proofs.Lists.{none_is_some}

module _ (m : MethodTypes) where
  abbrev tree : Tree
  tree = m.types.now

  pub field_loaded : (r : FieldReference) (held owner : ResolvedType) (p : ClassName × Field) (st : List StackEntry) → find_field tree false r ≡ Some p → type_named tree held ≡ r.field_type → type_named tree owner ≡ type_of_class r.owner →
      flow_of m (Named.LoadField r) st ≡ option_map (λ (rest : List StackType). OnStack.Declared (type_named tree held) ∷ rest) (take_operands tree (type_named tree owner ∷ []) (stack_types tree st))
  field_loaded r held owner p st finds is_held is_owner =
      ap (option_and_then (λ (found : ClassName × Field). option_map (λ (rest : List StackType). OnStack.Declared r.field_type ∷ rest) (take_operands tree (type_of_class r.owner ∷ []) (stack_types tree st)))) finds ∙
      ap (λ (t : DeclaredType). option_map (λ (rest : List StackType). OnStack.Declared t ∷ rest) (take_operands tree (type_of_class r.owner ∷ []) (stack_types tree st))) (sym is_held) ∙
      ap (λ (t : DeclaredType). option_map (λ (rest : List StackType). OnStack.Declared (type_named tree held) ∷ rest) (take_operands tree (t ∷ []) (stack_types tree st))) (sym is_owner)

  pub field_stored : (r : FieldReference) (held owner : ResolvedType) (p : ClassName × Field) (st : List StackEntry) → find_field tree false r ≡ Some p → type_named tree held ≡ r.field_type → type_named tree owner ≡ type_of_class r.owner →
      flow_of m (Named.StoreField r) st ≡ take_operands tree (type_named tree owner ∷ type_named tree held ∷ []) (stack_types tree st)
  field_stored r held owner p st finds is_held is_owner =
      ap (option_and_then (λ (found : ClassName × Field). take_operands tree (type_of_class r.owner ∷ r.field_type ∷ []) (stack_types tree st))) finds ∙
      ap (λ (t : DeclaredType). take_operands tree (type_of_class r.owner ∷ t ∷ []) (stack_types tree st)) (sym is_held) ∙
      ap (λ (t : DeclaredType). take_operands tree (t ∷ type_named tree held ∷ []) (stack_types tree st)) (sym is_owner)

  pub static_loaded : (r : FieldReference) (held : ResolvedType) (p : ClassName × Field) (st : List StackEntry) → find_field tree true r ≡ Some p → type_named tree held ≡ r.field_type →
      flow_of m (Named.LoadStaticField r) st ≡ Some (OnStack.Declared (type_named tree held) ∷ stack_types tree st)
  static_loaded r held p st finds is_held =
      ap (option_map (λ (found : ClassName × Field). OnStack.Declared r.field_type ∷ stack_types tree st)) finds ∙
      ap (λ (t : DeclaredType). Some (OnStack.Declared t ∷ stack_types tree st)) (sym is_held)

  pub static_stored : (r : FieldReference) (held : ResolvedType) (p : ClassName × Field) (st : List StackEntry) → find_field tree true r ≡ Some p → type_named tree held ≡ r.field_type →
      flow_of m (Named.StoreStaticField r) st ≡ take_operands tree (type_named tree held ∷ []) (stack_types tree st)
  static_stored r held p st finds is_held =
      ap (option_and_then (λ (found : ClassName × Field). take_operands tree (r.field_type ∷ []) (stack_types tree st))) finds ∙
      ap (λ (t : DeclaredType). take_operands tree (t ∷ []) (stack_types tree st)) (sym is_held)

  -- ---- calls

  operands_are : (b : Bool) (owner : Option ResolvedType) (o : DeclaredType) (ps : List ResolvedType) (qs : List DeclaredType) → option_map (type_named tree) owner ≡ (if b then Some o else None) → types_named tree ps ≡ qs →
      operands_named tree owner ps ≡ (if b then o ∷ qs else qs)
  operands_are true (Some t) o ps qs h k = λ i. same_Some (type_named tree t) o h i ∷ k i
  operands_are false None o ps qs h k = k
  operands_are true None o ps qs h k = none_is_some o h
  operands_are false (Some t) o ps qs h k = none_is_some (type_named tree t) (sym h)

  abbrev called_on : Option ResolvedType → ResolvedMethod → List StackEntry → StackAfter
  called_on owner called st = option_map (give (option_map (type_named tree) called.return_type)) (take_operands tree (operands_named tree owner called.parameters) (stack_types tree st))

  called_so : (b : Bool) (r : MethodReference) (named : Method) (owner : Option ResolvedType) (called : ResolvedMethod) (st : List StackEntry) →
      option_map (type_named tree) owner ≡ (if b then Some (type_of_class r.owner) else None) → IsCallable tree r.signature named called →
      option_map (give r.signature.return_type) (take_operands tree (reference_operands b r) (stack_types tree st)) ≡ called_on owner called st
  called_so b r named owner called st is_owner is =
      ap (λ (t : Option DeclaredType). option_map (give t) (take_operands tree (reference_operands b r) (stack_types tree st))) (sym is.return_type) ∙
      ap (λ (ts : List DeclaredType). option_map (give (option_map (type_named tree) called.return_type)) (take_operands tree ts (stack_types tree st))) (sym (operands_are b owner (type_of_class r.owner) called.parameters r.signature.parameters is_owner is.parameters))

  abbrev by_kind : Bool → MethodReference → List StackEntry → Bool → StackAfter
  by_kind b r st is_abstract = if is_abstract then None else option_map (give r.signature.return_type) (take_operands tree (reference_operands b r) (stack_types tree st))

  pub call_is : (b : Bool) (r : MethodReference) (p : ClassName × Method) (owner : Option ResolvedType) (called : ResolvedMethod) (st : List StackEntry) → find_method tree b r ≡ Some p → is_abstract_method p.1.kind ≡ false →
      option_map (type_named tree) owner ≡ (if b then Some (type_of_class r.owner) else None) → IsCallable tree r.signature p.1 called → flow_of m (Named.Call b r) st ≡ called_on owner called st
  call_is b r p owner called st finds has_code is_owner is =
      ap (option_and_then (λ (found : ClassName × Method). by_kind b r st (is_abstract_method found.1.kind))) finds ∙ ap (by_kind b r st) has_code ∙ called_so b r p.1 owner called st is_owner is

  pub call_refused : (b : Bool) (r : MethodReference) (p : ClassName × Method) (st : List StackEntry) → find_method tree b r ≡ Some p → is_abstract_method p.1.kind ≡ true → flow_of m (Named.Call b r) st ≡ None
  call_refused b r p st finds is_abstract = ap (option_and_then (λ (found : ClassName × Method). by_kind b r st (is_abstract_method found.1.kind))) finds ∙ ap (by_kind b r st) is_abstract

  pub virtual_is : (c : ClassName) (name : List ℕ) (signature : Signature) (p : ClassName × Method) (owner : Option ResolvedType) (called : ResolvedMethod) (st : List StackEntry) → find_method tree true (virtual_reference c name signature) ≡ Some p →
      option_map (type_named tree) owner ≡ Some (type_of_class c) → IsCallable tree signature p.1 called → flow_of m (Named.CallVirtual c name signature) st ≡ called_on owner called st
  virtual_is c name signature p owner called st finds is_owner is =
      ap (option_and_then (λ (found : ClassName × Method). by_kind true (virtual_reference c name signature) st false)) finds ∙ called_so true (virtual_reference c name signature) p.1 owner called st is_owner is

  -- ---- newobj

  abbrev by_class : ClassName → List DeclaredType → List StackEntry → Bool → StackAfter
  by_class c ps st is_concrete = if is_concrete then option_map (λ (rest : List StackType). OnStack.Declared (type_of_class c) ∷ rest) (take_operands tree ps (stack_types tree st)) else None

  pub new_is : (c : ClassName) (ps : List DeclaredType) (p : ClassName × Method) (object : ResolvedType) (called : ResolvedMethod) (st : List StackEntry) → find_method tree true (constructor_reference c ps) ≡ Some p → is_concrete tree c ≡ true →
      type_named tree object ≡ type_of_class c → types_named tree called.parameters ≡ ps →
      flow_of m (Named.NewObject c ps) st ≡ option_map (λ (rest : List StackType). OnStack.Declared (type_named tree object) ∷ rest) (take_operands tree (types_named tree called.parameters) (stack_types tree st))
  new_is c ps p object called st finds concrete is_object are =
      ap (option_and_then (λ (found : ClassName × Method). by_class c ps st (is_concrete tree c))) finds ∙ ap (by_class c ps st) concrete ∙
      ap (λ (t : DeclaredType). option_map (λ (rest : List StackType). OnStack.Declared t ∷ rest) (take_operands tree ps (stack_types tree st))) (sym is_object) ∙
      ap (λ (ts : List DeclaredType). option_map (λ (rest : List StackType). OnStack.Declared (type_named tree object) ∷ rest) (take_operands tree ts (stack_types tree st))) (sym are)

  pub new_refused : (c : ClassName) (ps : List DeclaredType) (p : ClassName × Method) (st : List StackEntry) → find_method tree true (constructor_reference c ps) ≡ Some p → is_concrete tree c ≡ false → flow_of m (Named.NewObject c ps) st ≡ None
  new_refused c ps p st finds concrete = ap (option_and_then (λ (found : ClassName × Method). by_class c ps st (is_concrete tree c))) finds ∙ ap (by_class c ps st) concrete

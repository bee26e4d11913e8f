-- What a constructor is that newobj finds: a method of the class itself, with an argument for the object and one for each parameter.
use Rattle.std.proofs.Common.{◌≡◌, ◌≤◌, ◌^◌, ℕ, suc, true, if◌then◌else◌, List, ◌∷◌, length, find, Option, Some, None, option_map, option_and_then, slice_get, sym, ap, ◌∙◌, arith}
use Rattle.std.specs.Prelude.{not, ◌&&◌, nat_lt}
use Rattle.std.specs.Option.{option_map_or}
use Rattle.std.proofs.lemmas.Option.{same_Some}
use Rattle.std.proofs.lemmas.Bool.{lt-ltb}
use Rattle.interpreter.specs.cil_model.declared.types.ClassName.{ClassName}
use Rattle.interpreter.specs.cil_model.declared.types.DeclaredType.{DeclaredType}
use Rattle.interpreter.specs.cil_model.declared.types.Signature.{Signature}
use Rattle.interpreter.specs.cil_model.declared.instructions.MethodName.TheVariants.{Constructor}
use Rattle.interpreter.specs.cil_model.declared.limits.TheConstants.{MOST_ARGUMENTS, MOST_LOCALS}
use Rattle.interpreter.specs.cil_model.declared.trees.Tree.{Tree}
use Rattle.interpreter.specs.cil_model.declared.trees.Method.{Method}
use Rattle.interpreter.specs.cil_model.Same.{same_flag, same_method_name, same_signature}
use Rattle.interpreter.specs.cil_model.Declarations.{Declaration}
use Rattle.interpreter.specs.cil_model.Assignable.{type_of_class}
use Rattle.interpreter.specs.cil_model.Bodies.{argument_types, constructor_reference}
use Rattle.interpreter.specs.cil_model.Chains.{is_static, methods_declared, find_method}
use Rattle.interpreter.specs.cil_model.Fields.{slot_types}
use Rattle.interpreter.specs.cil_model.Legality.{IsLegal}
use Rattle.interpreter.specs.reference_machine.BuiltIn.{Action, action_of}
use Rattle.interpreter.proofs.reference_machine.Programs.BuiltInMembers.{IsMember, acts_as_member}
use Rattle.interpreter.proofs.reference_machine.Programs.FoundMethods.{IsFound, found}
use Rattle.interpreter.specs.name_tables.declared.ids.MethodId.{MethodId}
use Rattle.interpreter.specs.name_tables.Numbers.{declarations, method_at}
use Rattle.interpreter.specs.resolved_code.ById.{class_name}
use Rattle.interpreter.specs.resolved_code.ResolvedPrograms.{IsMethod}
use Rattle.simulation.proofs.ProgramSizes.ClassesAndFields.{class_number_small, slots_few}
use Rattle.simulation.proofs.ProgramSizes.Methods.{arguments_few, locals_few}
use Rattle.interpreter.specs.loaded_program.AllMethods.{all_methods}
use Rattle.interpreter.specs.loaded_program.MethodNumbers.{number_of}
use Rattle.interpreter.specs.loaded_program.LocalKinds.{local_kinds}
use Rattle.interpreter.proofs.loaded_program.NumberLaws.{declared_has_id}
use Rattle.interpreter.specs.loaded_program.Operands.{class_in, slots_at}
use Rattle.simulation.proofs.Memory.InitialValues.{locals_low}
use Rattle.interpreter.proofs.cil_model.Lists.{none_is_some}

-- a method with its class
abbrev Owned : Type 0
Owned = ClassName × Method

-- the class of a method's number is the method's
class_of_number : (tree : Tree) (class index : ℕ) (c : ClassName) (m : Method) → method_at tree (class, index) ≡ Some (c, m) → class_name tree class ≡ Some c
class_of_number tree class index c m h = by_entry (slice_get (declarations tree) class) h
  where
    by_method : (k : ClassName) (o : Option Method) → option_map {U = Owned} (λ x. (k, x)) o ≡ Some (c, m) → k ≡ c
    by_method k None e = none_is_some (c, m) e
    by_method k (Some x) e = ap (λ (p : ClassName × Method). p.0) (same_Some (k, x) (c, m) e)

    by_entry : (o : Option (ClassName × Declaration)) → option_and_then (λ (e : ClassName × Declaration). option_map {U = Owned} (λ x. (e.0, x)) (slice_get e.1.methods index)) o ≡ Some (c, m) → option_map (λ (e : ClassName × Declaration). e.0) o ≡ Some c
    by_entry None e = none_is_some (c, m) e
    by_entry (Some (k, d)) e = ap Some (by_method k (slice_get d.methods index) e)

-- a constructor is looked for in its owner alone
own_class : (tree : Tree) (c k : ClassName) (parameters : List DeclaredType) (m : Method) → find_method tree true (constructor_reference c parameters) ≡ Some (k, m) → c ≡ k
own_class tree c k parameters m h = by_found (find (λ (y : Method). same_method_name y.name Constructor && same_signature y.signature (constructor_reference c parameters).signature && same_flag (is_static y.kind) (not true)) (methods_declared tree c)) h
  where
    by_found : (o : Option Method) → option_map_or {U = Option Owned} (λ x. Some (c, x)) o None ≡ Some (k, m) → c ≡ k
    by_found None e = none_is_some (k, m) e
    by_found (Some x) e = ap (λ (p : ClassName × Method). p.0) (same_Some (c, x) (k, m) e)

module _ (tree : Tree) (legal : IsLegal tree) (c : ClassName) (parameters : List DeclaredType) (number : MethodId) (is : IsMethod tree true (constructor_reference c parameters) number) where
  abbrev pub constructor : Method
  constructor = is.found

  is_own : c ≡ is.declared_in
  is_own = own_class tree c is.declared_in parameters constructor is.finds

  pub finds_own : find_method tree true (constructor_reference c parameters) ≡ Some (c, constructor)
  finds_own = is.finds ∙ ap (λ k. Some (k, constructor)) (sym is_own)

  pub own_has_id : method_at tree (number.class, number.index) ≡ Some (c, constructor)
  own_has_id = is.has_id ∙ ap (λ k. Some (k, constructor)) (sym is_own)

  is_found : IsFound tree true (constructor_reference c parameters) c constructor
  is_found = found tree legal true (constructor_reference c parameters) c constructor finds_own

  -- ---- the class

  pub class_named : class_name tree number.class ≡ Some c
  class_named = class_of_number tree number.class number.index c constructor own_has_id

  pub class_is_in : class_in number ≡ Some number.class
  class_is_in = ap (λ b. if b then Some number.class else None) (lt-ltb number.class (2 ^ 16) (class_number_small tree legal number.class c class_named))

  pub slots_are_at : slots_at tree number ≡ Some (length (slot_types tree c))
  slots_are_at =
      ap (λ o. option_and_then (λ (k : ClassName). if nat_lt (length (slot_types tree k)) (2 ^ 32) then Some (length (slot_types tree k)) else None) o) class_named ∙
      ap (λ b. if b then Some (length (slot_types tree c)) else None) (lt-ltb (length (slot_types tree c)) (2 ^ 32) (slots_few tree legal number.class c class_named))

  -- ---- arguments

  arguments_are : argument_types constructor c ≡ type_of_class c ∷ parameters
  arguments_are = ap (λ b. if b then constructor.signature.parameters else type_of_class c ∷ constructor.signature.parameters) is_found.static ∙ ap (λ (x : Signature). type_of_class c ∷ x.parameters) is_found.signature

  -- one for the object, and the parameters
  pub arguments_count : length (argument_types constructor c) ≡ suc (length parameters)
  arguments_count = ap length arguments_are

  pub few_arguments : length (argument_types constructor c) ≤ MOST_ARGUMENTS
  few_arguments = arguments_few tree legal c is_found.declared.0 constructor is_found.declared.1

  pub few_locals : length (local_kinds constructor) ≤ MOST_LOCALS
  few_locals = locals_low constructor MOST_LOCALS (locals_few tree legal c is_found.declared.0 constructor is_found.declared.1)

  -- a constructor that is built in has no parameters
  pub plain_has_none : (a : Action) → action_of c constructor ≡ Some a → length parameters ≡ 0
  plain_has_none a acts =
      let member : IsMember a c constructor = acts_as_member tree c constructor a is_found.declared acts in
      let counted : length (argument_types constructor c) ≡ 1 = ap length member.takes in
      omega (arith, counted, arguments_count)

  -- ---- its number

  pub constructor_has_id : (n : ℕ) × (number_of tree (c, constructor) ≡ Some n) × (slice_get (all_methods tree) n ≡ Some (c, constructor))
  constructor_has_id = declared_has_id tree legal is_found.declared.0 (c, constructor) is_found.declared.1

-- What a resolved instruction does, where its link is known.
use Rattle.std.proofs.Common.{◌≡◌, ℕ, Bool, false, List, length, Some, option_map, option_and_then, sym, ap, ◌∙◌}
use Rattle.std.specs.Prelude.{IsSome}
use Rattle.std.specs.Option.{option_map_or}
use Rattle.cil_model.specs.declared.types.ClassName.{ClassName}
use Rattle.cil_model.specs.declared.trees.Tree.{Tree}
use Rattle.cil_model.specs.declared.trees.Method.{Method}
use Rattle.cil_model.specs.Bodies.{argument_types}
use Rattle.name_tables.specs.declared.ids.MethodId.{MethodId}
use Rattle.name_tables.specs.Numbers.{method_at}
use Rattle.resolved_code.specs.declared.operations.Operation.{Operation}
use Rattle.resolved_code.specs.declared.operations.Operation.TheVariants as Resolved
use Rattle.object_memory.specs.declared.values.Value.{Value}
use Rattle.object_memory.specs.Objects.{Objects}
use Rattle.loaded_program.specs.AllMethods.{flat_number}
use Rattle.loaded_program.specs.declared.instructions.LinkedInstruction.{LinkedInstruction}
use Rattle.loaded_program.specs.declared.instructions.LinkedInstruction.TheVariants as Linked
use Rattle.loaded_program.specs.Operands.{class_in, slots_at}
use Rattle.loaded_program.specs.Links.{IsLinked, link, number_at}
use Rattle.loaded_program.specs.LoadedPrograms.{has_value}
use Rattle.loaded_program.proofs.FlatLaws.{method_of_number}
use Rattle.threads_monitors.specs.declared.mutators.Mutator.{Mutator}
use Rattle.threads_monitors.specs.Frames.{Frames}
use Rattle.instructions.specs.Frames.{when_some}
use Rattle.instructions.specs.Calls.{return_transition}
use Rattle.interpreter.specs.Calls.{make_object, run_transition, virtual_transition}
use Rattle.interpreter.specs.Instructions.{MachineTransition, link_of, linked_transition, method_of, of_calls, of_frames, of_objects, operation_transition}
use Rattle.interpreter.proofs.MethodsToRun.{given_some}

module _ (tree : Tree) (mutator : Mutator) (m : Frames) (o : Objects) (ss : List Value) (c : List ℕ) where
  abbrev transition : LinkedInstruction → MachineTransition
  transition l = linked_transition tree mutator l m o ss c

  -- what its link does
  pub link_does : (op : Operation) (l : LinkedInstruction) → link_of tree m op ≡ Some l → operation_transition tree mutator op m o ss c ≡ transition l
  link_does op l is = ap (λ x. when_some x transition) is

  -- where it has a result it has a link, and any linked form of it is that
  pub link_is : (found : ClassName × Method) → method_of tree m ≡ Some found → (op : Operation) (l : LinkedInstruction) → IsLinked tree (has_value found) op l → IsSome (operation_transition tree mutator op m o ss c) → link_of tree m op ≡ Some l
  link_is found at op l is there =
      let required = given_some (link_of tree m op) transition there in
      let named : link tree (has_value found) op ≡ Some required.0 = sym (ap (λ x. link tree (option_map_or has_value x false) op) at) ∙ required.1 in
      required.1 ∙ ap Some (sym (is required.0 named))

  -- ---- calls, by the methods that they name

  module _ (n : MethodId) (found : ClassName × Method) (is : method_at tree (n.class, n.index) ≡ Some found) where
    number_is : number_at tree n ≡ Some (flat_number tree n.class n.index)
    number_is = ap (option_map (λ (x : ClassName × Method). flat_number tree n.class n.index)) is

    -- call
    pub call_does : (b : Bool) (owner : ℕ) → operation_transition tree mutator (Resolved.Call b owner n) m o ss c ≡ of_calls o ss c (run_transition tree mutator found m o c)
    call_does b owner =
        link_does (Resolved.Call b owner n) (Linked.Call (flat_number tree n.class n.index)) (ap (option_map (λ number. Linked.Call number)) number_is)
        ∙ ap (λ x. of_calls o ss c (when_some x (λ run. run_transition tree mutator run m o c))) (method_of_number tree n.class n.index found is)

    -- callvirt
    pub virtual_does : (owner : ℕ) → operation_transition tree mutator (Resolved.CallVirtual owner n) m o ss c ≡ of_calls o ss c (virtual_transition tree mutator found (length (argument_types found.1 found.0)) m o c)
    virtual_does owner =
        link_does (Resolved.CallVirtual owner n) (Linked.CallVirtual (flat_number tree n.class n.index) (length (argument_types found.1 found.0)))
        (ap (option_map (λ (x : ClassName × Method). Linked.CallVirtual (flat_number tree n.class n.index) (length (argument_types x.1 x.0)))) is)
        ∙ ap (λ x. of_calls o ss c (when_some x (λ run. virtual_transition tree mutator run (length (argument_types found.1 found.0)) m o c))) (method_of_number tree n.class n.index found is)

    -- newobj
    pub new_does : (class slots : ℕ) → class_in n ≡ Some class → slots_at tree n ≡ Some slots → operation_transition tree mutator (Resolved.NewObject n) m o ss c ≡ of_objects o ss c (make_object tree mutator class slots found m o)
    new_does class slots class_is slots_are =
        link_does (Resolved.NewObject n) (Linked.NewObject class slots (flat_number tree n.class n.index))
        (ap (option_and_then (λ k. option_and_then (λ s. option_map (λ number. Linked.NewObject k s number) (number_at tree n)) (slots_at tree n))) class_is
        ∙ ap (option_and_then (λ s. option_map (λ number. Linked.NewObject class s number) (number_at tree n))) slots_are
        ∙ ap (option_map (λ number. Linked.NewObject class slots number)) number_is)
        ∙ ap (λ x. of_objects o ss c (when_some x (λ run. make_object tree mutator class slots run m o))) (method_of_number tree n.class n.index found is)

  -- ret
  pub return_does : (found : ClassName × Method) → method_of tree m ≡ Some found → operation_transition tree mutator Resolved.Return m o ss c ≡ of_frames o ss c (return_transition (has_value found) m)
  return_does found at = ap (λ x. of_frames o ss c (return_transition (option_map_or has_value x false) m)) at

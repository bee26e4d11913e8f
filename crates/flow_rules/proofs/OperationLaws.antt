-- What holds of each instruction that an operation represents holds of the given one.
use Rattle.std.proofs.Common.{List}
use Rattle.cil_model.specs.declared.instructions.Instruction.{Instruction}
use Rattle.cil_model.specs.declared.trees.Tree.{Tree}
use Rattle.cil_model.specs.declared.trees.Line.{Line}
use Rattle.resolved_code.specs.ResolvedPrograms.{IsOperation, load_string, branch, switch, load_field, store_field, load_static_field, store_static_field, new_array, cast_class, is_instance, call, call_virtual, new_object}
use Rattle.resolved_code.specs.declared.operations.Operation.{Operation}
use Rattle.flow_rules.specs.Operations.{OfEach}
use Rattle.flow_rules.proofs.MemberLaws.{type_is_named}

pub of_this : (tree : Tree) (lines : List Line) (P : Instruction → Type 0) (i : Instruction) (op : Operation) → IsOperation tree lines i op → OfEach tree P op → P i
of_this tree lines P _ _ (load_string characters n at) h = h characters
of_this tree lines P _ _ (branch condition label index at) h = h label
of_this tree lines P _ _ (switch labels indices at) h = h labels
of_this tree lines P _ _ (load_field r owner field at is) h = h r at is
of_this tree lines P _ _ (store_field r owner field at is) h = h r at is
of_this tree lines P _ _ (load_static_field r field is) h = h r is
of_this tree lines P _ _ (store_static_field r field is) h = h r is
of_this tree lines P _ _ (new_array t n at) h = h t (type_is_named tree n t at)
of_this tree lines P _ _ (cast_class t n at) h = h t (type_is_named tree n t at)
of_this tree lines P _ _ (is_instance t n at) h = h t (type_is_named tree n t at)
of_this tree lines P _ _ (call b r owner method at is) h = h r at is
of_this tree lines P _ _ (call_virtual c name signature owner method at is) h = h c name signature at is
of_this tree lines P _ _ (new_object c parameters method is) h = h c parameters is
of_this _ _ _ _ _ _ h = h

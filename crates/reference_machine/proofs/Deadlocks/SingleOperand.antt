-- A member that acts at once on one object finds it as its only operand.
use Rattle.std.proofs.Common.{◌≡◌, suc, Bool, true, false, if◌then◌else◌, [], ◌∷◌, length, Some, sym, ap, ◌∙◌, subst}
use Rattle.cil_model.specs.declared.instructions.MethodReference.{MethodReference}
use Rattle.cil_model.specs.declared.trees.Method.{Method}
use Rattle.cil_model.specs.declared.trees.Tree.{Tree}
use Rattle.cil_model.specs.declared.types.ClassName.{ClassName}
use Rattle.cil_model.specs.declared.types.Signature.{Signature}
use Rattle.cil_model.specs.Assignable.{type_of_class}
use Rattle.cil_model.specs.Bodies.{reference_operands}
use Rattle.cil_model.specs.Chains.{find_method}
use Rattle.cil_model.specs.Legality.{IsLegal}
use Rattle.reference_machine.specs.BuiltIn.{Action, action_of}
use Rattle.reference_machine.proofs.Programs.BuiltInMembers.{IsMember, acts_as_member}
use Rattle.reference_machine.proofs.Programs.FoundMethods.{IsFound, found}

module _ (tree : Tree) (legal : IsLegal tree) where
  counted : (is_instance : Bool) (r : MethodReference) (c : ClassName) (m : Method) (a : Action) → IsFound tree is_instance r c m → IsMember a c m → length (reference_operands is_instance r) ≡ 1
  counted false r c m a is member =
      let own : m.signature.parameters ≡ member.operand ∷ [] =
      subst (λ b. (if b then m.signature.parameters else type_of_class c ∷ m.signature.parameters) ≡ member.operand ∷ []) is.static member.takes in
      ap (λ (x : Signature). length x.parameters) (sym is.signature) ∙ ap length own
  counted true r c m a is member =
      let own : type_of_class c ∷ m.signature.parameters ≡ member.operand ∷ [] =
      subst (λ b. (if b then m.signature.parameters else type_of_class c ∷ m.signature.parameters) ≡ member.operand ∷ []) is.static member.takes in
      ap (λ (x : Signature). suc (length x.parameters)) (sym is.signature) ∙ ap length own

  -- a reference to a member that acts takes one operand
  pub one_operand : (is_instance : Bool) (r : MethodReference) (c : ClassName) (m : Method) (a : Action) → find_method tree is_instance r ≡ Some (c, m) → action_of c m ≡ Some a → length (reference_operands is_instance r) ≡ 1
  one_operand is_instance r c m a e acts =
      let is : IsFound tree is_instance r c m = found tree legal is_instance r c m e in
      counted is_instance r c m a is (acts_as_member tree c m a is.declared acts)

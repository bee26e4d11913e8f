-- The types of a method's arguments.
use Rattle.std.proofs.Common.{◌≡◌, Bool, true, false, if◌then◌else◌, List, ◌∷◌, sym, ap, ◌∙◌}
use Rattle.cil_model.specs.declared.types.ClassName.{ClassName}
use Rattle.cil_model.specs.declared.types.DeclaredType.{DeclaredType}
use Rattle.cil_model.specs.declared.trees.Tree.{Tree}
use Rattle.cil_model.specs.declared.trees.Method.{Method}
use Rattle.cil_model.specs.Assignable.{type_of_class}
use Rattle.cil_model.specs.Bodies.{argument_types}
use Rattle.cil_model.specs.Chains.{is_static}
use Rattle.flow_rules.specs.StackTypes.{type_named, types_named}
use Rattle.flow_rules.proofs.MemberLaws.{types_are_named}
use Rattle.resolved_code.specs.declared.classes.ResolvedMethod.{ResolvedMethod}
use Rattle.resolved_code.specs.declared.types.ResolvedType.{ResolvedType}
use Rattle.resolved_code.specs.ResolvedPrograms.{IsResolvedMethod}

module _ (tree : Tree) (owner : ClassName) (m : Method) (found : ResolvedMethod) (is : IsResolvedMethod tree m found) where
  parameters_named : types_named tree found.parameters ≡ m.signature.parameters
  parameters_named = types_are_named tree found.parameters m.signature.parameters is.parameters

  -- a static method has its parameters alone
  pub static_arguments : is_static m.kind ≡ true → types_named tree found.parameters ≡ argument_types m owner
  static_arguments e = parameters_named ∙ sym (ap (λ (b : Bool). if b then m.signature.parameters else type_of_class owner ∷ m.signature.parameters) e)

  -- another has the object first
  pub instance_arguments : (first : ResolvedType) → type_named tree first ≡ type_of_class owner → is_static m.kind ≡ false → types_named tree (first ∷ found.parameters) ≡ argument_types m owner
  instance_arguments first named e =
      ap (λ (t : DeclaredType). t ∷ types_named tree found.parameters) named
      ∙ ap (λ (ts : List DeclaredType). type_of_class owner ∷ ts) parameters_named
      ∙ sym (ap (λ (b : Bool). if b then m.signature.parameters else type_of_class owner ∷ m.signature.parameters) e)

-- What is found of the fields and methods that references find.
use Rattle.std.specs.Prelude.{◌≡◌, Bool, true, false, List, ◌∷◌, Option, Some, None, option_map, Result, Ok, Err}
use Rattle.cil_model.specs.declared.types.DeclaredType.{DeclaredType}
use Rattle.cil_model.specs.declared.types.Signature.{Signature}
use Rattle.cil_model.specs.declared.trees.Tree.{Tree}
use Rattle.cil_model.specs.declared.trees.Method.{Method}
use Rattle.cil_model.specs.Chains.{is_abstract_method}
use Rattle.resolved_code.specs.declared.types.ResolvedType.{ResolvedType}
use Rattle.resolved_code.specs.declared.classes.ResolvedMethod.{ResolvedMethod}
use Rattle.resolved_code.specs.declared.classes.ResolvedKind.{ResolvedKind}
use Rattle.resolved_code.specs.declared.classes.ResolvedKind.TheVariants.{Static, Instance, Virtual, Abstract}
use Rattle.flow_rules.specs.StackTypes.{type_named, types_named}
use Rattle.flow_rules.specs.declared.mismatches.FlowError.{FlowError}

-- the result is a number of the type
abbrev pub GivesType : Tree → Result ResolvedType FlowError → DeclaredType → Type 0
GivesType tree (Ok n) t = type_named tree n ≡ t
GivesType tree (Err e) t = ⊥

-- a method that a class leaves to those below it (II.15.4.2)
abbrev pub is_abstract_kind : ResolvedKind → Bool
is_abstract_kind (Static body) = false
is_abstract_kind (Instance body) = false
is_abstract_kind (Virtual is_new_slot body) = false
is_abstract_kind (Abstract is_new_slot) = true

-- a method of this signature, abstract where the one that it represents is
pub record IsCallable (tree : Tree) (signature : Signature) (named : Method) (found : ResolvedMethod) : Type 0 where
  pub parameters : types_named tree found.parameters ≡ signature.parameters
  pub return_type : option_map (type_named tree) found.return_type ≡ signature.return_type
  pub is_abstract : is_abstract_kind found.kind ≡ is_abstract_method named.kind

-- the operands of a call: the owner's type first, where it is an instance's (II.15.3)
abbrev pub operands_named : Tree → Option ResolvedType → List ResolvedType → List DeclaredType
operands_named tree None parameters = types_named tree parameters
operands_named tree (Some owner) parameters = type_named tree owner ∷ types_named tree parameters

-- What the typing of one method by numbers says of the method that is named.
use Rattle.std.proofs.Common.{◌≡◌, ℕ, List, [], Option, Some, None, option_map, option_and_then, slice_get, Result, Ok, Err, refl, sym, ap, subst, ◌∙◌}
use Rattle.std.proofs.lemmas.Option.{same_Some}
use Rattle.cil_model.specs.declared.types.ClassName.{ClassName}
use Rattle.cil_model.specs.declared.trees.Tree.{Tree}
use Rattle.cil_model.specs.declared.trees.Code.{Code}
use Rattle.cil_model.specs.declared.trees.Method.{Method}
use Rattle.cil_model.specs.Bodies.{argument_types, code_of}
use Rattle.cil_model.specs.Declarations.{Declaration}
use Rattle.cil_model.specs.Typings.{Typing, IsTypingOf}
use Rattle.flow_rules.specs.declared.entries.StackEntry.{StackEntry}
use Rattle.flow_rules.specs.StackTypes.{type_named, types_named}
use Rattle.flow_rules.proofs.MemberLaws.{return_is_named}
use Rattle.name_tables.specs.declared.ids.MethodId.{MethodId}
use Rattle.name_tables.specs.Numbers.{declarations, method_at}
use Rattle.resolved_code.specs.Contents.{IsMethodOf}
use Rattle.resolved_code.specs.ResolvedPrograms.{BothAlike, IsBody, IsResolvedMethod}
use Rattle.resolved_code.specs.declared.classes.Body.{Body}
use Rattle.resolved_code.specs.declared.classes.ResolvedMethod.{ResolvedMethod}
use Rattle.resolved_code.specs.declared.types.ResolvedType.{ResolvedType}
use Rattle.resolved_code.specs.ById.{class_name}
use Rattle.verifier.specs.Answers.{typing_of, IsTypingAnswer}
use Rattle.verifier.specs.declared.failures.TypingError.{TypingError}
use Rattle.verifier.specs.declared.failures.TypingError.TheVariants as OfMethod
use Rattle.verifier.specs.Verdicts.{IsMethodVerdict}
use Rattle.cil_model.proofs.Lists.{none_is_some}

module _ (tree : Tree) (owner : ClassName) (m : Method) where
  -- a method that is known by its number is in a class of that number
  pub owner_named : (class pc : ℕ) → method_at tree (class, pc) ≡ Some (owner, m) → class_name tree class ≡ Some owner
  owner_named class pc h = by_entry (slice_get (declarations tree) class) refl h
    where
      by_method : (e : ClassName × Declaration) (o : Option Method) → option_map {U = ClassName × Method} (λ x. (e.0, x)) o ≡ Some (owner, m) → e.0 ≡ owner
      by_method e None k = none_is_some _ k
      by_method e (Some x) k = ap (λ (y : ClassName × Method). y.0) (same_Some _ _ k)

      by_entry : (o : Option (ClassName × Declaration)) → slice_get (declarations tree) class ≡ o → option_and_then {U = ClassName × Method} (λ (e : ClassName × Declaration). option_map {U = ClassName × Method} (λ x. (e.0, x)) (slice_get e.1.methods pc)) o ≡ Some (owner, m) → class_name tree class ≡ Some owner
      by_entry None at k = none_is_some _ k
      by_entry (Some e) at k = ap (option_map (λ (x : ClassName × Declaration). x.0)) at ∙ ap Some (by_method e (slice_get e.1.methods pc) k)

  -- it is there by numbers too
  pub not_absent : (number : MethodId) → method_at tree (number.class, number.index) ≡ Some (owner, m) → IsMethodOf tree number None → ⊥
  not_absent number h is = subst (λ (o : Option (ClassName × Method)). BothAlike (λ (named : ClassName × Method) resolved. IsResolvedMethod tree named.1 resolved) o None) h is

  pub is_resolved : (number : MethodId) (found : ResolvedMethod) → method_at tree (number.class, number.index) ≡ Some (owner, m) → IsMethodOf tree number (Some found) → IsResolvedMethod tree m found
  is_resolved number found h is = subst (λ (o : Option (ClassName × Method)). BothAlike (λ (named : ClassName × Method) resolved. IsResolvedMethod tree named.1 resolved) o (Some found)) h is

  -- a method without code has the empty typing
  pub empty_verdict : BothAlike (IsBody tree) (code_of m.kind) None → IsMethodVerdict tree owner m (Ok [])
  empty_verdict is = by_code (code_of m.kind) is
    where
      by_code : (o : Option Code) → BothAlike (IsBody tree) o None → IsTypingOf tree (argument_types m owner) m.signature.return_type o []
      by_code None k = refl
      by_code (Some code) k = absurd k

  -- the code of a method that has some
  pub code_there : (body : Body) → BothAlike (IsBody tree) (code_of m.kind) (Some body) → (code : Code) × (code_of m.kind ≡ Some code) × IsBody tree code body
  code_there body is = by_code (code_of m.kind) refl is
    where
      by_code : (o : Option Code) → code_of m.kind ≡ o → BothAlike (IsBody tree) o (Some body) → (code : Code) × (code_of m.kind ≡ Some code) × IsBody tree code body
      by_code None e k = absurd k
      by_code (Some code) e k = (code, e, k)

  -- what is found of the code of a method is found of the method
  pub code_verdict : (found : ResolvedMethod) (code : Code) (arguments : List ResolvedType) (answer : Result (List (Option (List StackEntry))) TypingError) → IsResolvedMethod tree m found → code_of m.kind ≡ Some code →
      types_named tree arguments ≡ argument_types m owner → IsTypingAnswer tree (types_named tree arguments) (option_map (type_named tree) found.return_type) code answer → IsMethodVerdict tree owner m answer
  code_verdict found code arguments answer is coded named reported = by_answer answer reported
    where
      returned : option_map (type_named tree) found.return_type ≡ m.signature.return_type
      returned = return_is_named tree found.return_type m.signature.return_type is.return_type

      same : (typing : Typing) → IsTypingOf tree (types_named tree arguments) (option_map (type_named tree) found.return_type) (Some code) typing ≡ IsTypingOf tree (argument_types m owner) m.signature.return_type (code_of m.kind) typing
      same typing i = IsTypingOf tree (named i) (returned i) (sym coded i) typing

      by_answer : (a : Result (List (Option (List StackEntry))) TypingError) → IsTypingAnswer tree (types_named tree arguments) (option_map (type_named tree) found.return_type) code a → IsMethodVerdict tree owner m a
      by_answer (Ok rows) t = subst (λ (T : Type 0). T) (same (typing_of tree rows)) t.is_typing
      by_answer (Err (OfMethod.Untyped failure)) t = λ typing typed. t typing (subst (λ (T : Type 0). T) (sym (same typing)) typed)
      by_answer (Err OfMethod.OutOfMemory) t = t

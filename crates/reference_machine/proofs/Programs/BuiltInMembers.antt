-- What the members without code take and return, by what they do.
use Rattle.std.proofs.Common.{◌≡◌, ◌⊎◌, ℕ, zero, suc, false, IsTrue, [], ◌∷◌, Some, None, slice_get, refl, inl, inr, sym, ap, ◌∙◌, subst}
use Rattle.std.proofs.lemmas.Option.{same_Some}
use Rattle.cil_model.specs.declared.types.ClassName.{ClassName}
use Rattle.cil_model.specs.declared.types.DeclaredType.{DeclaredType}
use Rattle.cil_model.specs.declared.types.Element.TheVariants.{String, Class}
use Rattle.cil_model.specs.declared.trees.Tree.{Tree}
use Rattle.cil_model.specs.declared.trees.Method.{Method}
use Rattle.cil_model.specs.Declarations.{Declaration, plain, object_name, console_name, monitor_name, thread_name, object_constructor, run_method}
use Rattle.cil_model.specs.Chains.{is_virtual, methods_declared, listed_by}
use Rattle.cil_model.specs.Assignable.{is_reference}
use Rattle.cil_model.specs.Bodies.{argument_types}
use Rattle.reference_machine.specs.BuiltIn.{Action, Construct, Write, Enter, Exit, Start, Join, action_of}
use Rattle.reference_machine.proofs.Programs.MethodTypings.{IsDeclared}
use Rattle.reference_machine.proofs.Programs.DeclaredClasses.{ThreadStatus, of_source, of_object, of_string, of_console, of_monitor, of_thread, of_none, thread_status, source_is_named}
use Rattle.cil_model.proofs.Lists.{none_is_some}

-- what the one operand of an action is
abbrev pub IsOperandOf : Action → DeclaredType → Type 0
IsOperandOf Construct t = Unit {0}
IsOperandOf Write t = (is_reference t ≡ false) ⊎ (t ≡ plain String)
IsOperandOf Enter t = IsTrue (is_reference t)
IsOperandOf Exit t = IsTrue (is_reference t)
IsOperandOf Start t = t ≡ plain (Class thread_name)
IsOperandOf Join t = t ≡ plain (Class thread_name)

-- a member that takes one operand, returns nothing and is not virtual
pub record IsMember (a : Action) (c : ClassName) (m : Method) : Type 0 where
  pub operand : DeclaredType
  pub takes : argument_types m c ≡ operand ∷ []
  pub fits : IsOperandOf a operand
  pub nothing_returned : m.signature.return_type ≡ None
  pub not_virtual : is_virtual m.kind ≡ false

-- what is equal to a member is one
same_member : (c : ClassName) (m m' : Method) (a b : Action) → action_of c m ≡ Some a → IsMember a c m → m ≡ m' → action_of c m' ≡ Some b → IsMember b c m'
same_member c m m' a b acts member e h =
    subst (λ x. IsMember b c x) e (subst (λ x. IsMember x c m) (same_Some a b (sym acts ∙ subst (λ x. action_of c x ≡ Some b) (sym e) h)) member)

module _ (tree : Tree) (m : Method) (a : Action) where
  -- the members of each built-in class
  member_of_object : (n : ℕ) → slice_get (methods_declared tree object_name) n ≡ Some m → action_of object_name m ≡ Some a → IsMember a object_name m
  member_of_object zero e h = same_member object_name object_constructor m Construct a refl (record { operand = _; takes = refl; fits = tt; nothing_returned = refl; not_virtual = refl }) (same_Some object_constructor m e) h
  member_of_object (suc n) e h = none_is_some m e

  member_of_console : (n : ℕ) → slice_get (methods_declared tree console_name) n ≡ Some m → action_of console_name m ≡ Some a → IsMember a console_name m
  member_of_console (suc (suc zero)) e h = same_member console_name _ m Write a refl (record { operand = _; takes = refl; fits = inr refl; nothing_returned = refl; not_virtual = refl }) (same_Some _ m e) h
  member_of_console (suc (suc (suc n))) e h = none_is_some m e
  member_of_console _ e h = same_member console_name _ m Write a refl (record { operand = _; takes = refl; fits = inl refl; nothing_returned = refl; not_virtual = refl }) (same_Some _ m e) h

  member_of_monitor : (n : ℕ) → slice_get (methods_declared tree monitor_name) n ≡ Some m → action_of monitor_name m ≡ Some a → IsMember a monitor_name m
  member_of_monitor zero e h = same_member monitor_name _ m Enter a refl (record { operand = _; takes = refl; fits = refl; nothing_returned = refl; not_virtual = refl }) (same_Some _ m e) h
  member_of_monitor (suc zero) e h = same_member monitor_name _ m Exit a refl (record { operand = _; takes = refl; fits = refl; nothing_returned = refl; not_virtual = refl }) (same_Some _ m e) h
  member_of_monitor (suc (suc n)) e h = none_is_some m e

  -- all but Run act at once
  member_of_thread : (n : ℕ) → slice_get (methods_declared tree thread_name) n ≡ Some m → action_of thread_name m ≡ Some a → IsMember a thread_name m
  member_of_thread zero e h = same_member thread_name object_constructor m Construct a refl (record { operand = _; takes = refl; fits = tt; nothing_returned = refl; not_virtual = refl }) (same_Some object_constructor m e) h
  member_of_thread (suc zero) e h = none_is_some a (subst (λ x. action_of thread_name x ≡ Some a) (sym (same_Some run_method m e)) h)
  member_of_thread (suc (suc zero)) e h = same_member thread_name _ m Start a refl (record { operand = _; takes = refl; fits = refl; nothing_returned = refl; not_virtual = refl }) (same_Some _ m e) h
  member_of_thread (suc (suc (suc zero))) e h = same_member thread_name _ m Join a refl (record { operand = _; takes = refl; fits = refl; nothing_returned = refl; not_virtual = refl }) (same_Some _ m e) h
  member_of_thread (suc (suc (suc (suc n)))) e h = none_is_some m e

  -- no class but a built-in one has a member that acts
  by_thread_status : {c : ClassName} → ThreadStatus tree c → IsDeclared tree c m → action_of c m ≡ Some a → IsMember a c m
  by_thread_status {c} (of_source x found) declared h = none_is_some a (subst (λ k. action_of k m ≡ Some a) (sym (source_is_named tree c x found)) h)
  by_thread_status of_object declared h = member_of_object declared.0 declared.1 h
  by_thread_status of_string declared h = none_is_some m declared.1
  by_thread_status of_console declared h = member_of_console declared.0 declared.1 h
  by_thread_status of_monitor declared h = member_of_monitor declared.0 declared.1 h
  by_thread_status of_thread declared h = member_of_thread declared.0 declared.1 h
  by_thread_status (of_none e) declared h = none_is_some m (sym (ap (λ o. slice_get (listed_by (λ (d : Declaration). d.methods) o) declared.0) e) ∙ declared.1)

-- a declared method with an action is a member of a built-in class
pub acts_as_member : (tree : Tree) (c : ClassName) (m : Method) (a : Action) → IsDeclared tree c m → action_of c m ≡ Some a → IsMember a c m
acts_as_member tree c m a declared h = by_thread_status tree m a (thread_status tree c) declared h

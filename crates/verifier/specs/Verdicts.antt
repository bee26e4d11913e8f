-- The results of verification.
use Rattle.std.specs.Prelude.{◌≡◌, ℕ, List, Option, Some, length, slice_get, Result, Ok, Err}
use Rattle.cil_model.specs.declared.types.ClassName.{ClassName}
use Rattle.cil_model.specs.declared.trees.Tree.{Tree}
use Rattle.cil_model.specs.declared.trees.Method.{Method}
use Rattle.cil_model.specs.Bodies.{source_methods}
use Rattle.cil_model.specs.Typings.{Typing, IsTyping, IsAccepted, IsFirstUntyped}
use Rattle.flow_rules.specs.declared.entries.StackEntry.{StackEntry}
use Rattle.verifier.specs.Answers.{typing_of}
use Rattle.verifier.specs.declared.failures.TypingError.{TypingError}
use Rattle.verifier.specs.declared.failures.TypingError.TheVariants as OfMethod
use Rattle.verifier.specs.declared.refusals.VerifyError.{VerifyError}
use Rattle.verifier.specs.declared.refusals.VerifyError.TheVariants.{NoTyping, OutOfMemory}

-- a typing of a method, or that it has none; out of memory says nothing of it
abbrev pub IsMethodVerdict : Tree → ClassName → Method → Result (List (Option (List StackEntry))) TypingError → Type 0
IsMethodVerdict tree owner m (Ok rows) = IsTyping tree owner m (typing_of tree rows)
IsMethodVerdict tree owner m (Err (OfMethod.Untyped failure)) = (typing : Typing) → IsTyping tree owner m typing → ⊥
IsMethodVerdict tree owner m (Err OfMethod.OutOfMemory) = Unit {0}

-- each typing is one of the method with its number (III.1.8)
abbrev pub AreOfMethods : Tree → List (List (Option (List StackEntry))) → Type 0
AreOfMethods tree typings = (n : ℕ) (rows : List (Option (List StackEntry))) (owner : ClassName) (m : Method) → slice_get typings n ≡ Some rows → slice_get (source_methods tree) n ≡ Some (owner, m) →
    IsTyping tree owner m (typing_of tree rows)

-- a typing of each method, in source order
pub record AreTypings (tree : Tree) (typings : List (List (Option (List StackEntry)))) : Type 0 where
  pub whole : length typings ≡ length (source_methods tree)
  pub each : AreOfMethods tree typings

-- a typing of each method, or the first method that has none; out of memory says nothing of them
abbrev pub AreVerdicts : Tree → Result (List (List (Option (List StackEntry)))) VerifyError → Type 0
AreVerdicts tree (Ok typings) = AreTypings tree typings
AreVerdicts tree (Err (NoTyping method failure)) = IsFirstUntyped tree method
AreVerdicts tree (Err OutOfMemory) = Unit {0}

-- the refusal of a method, with what is known of its failure, or out of memory
abbrev pub IsRefusalOf : ℕ → TypingError → VerifyError → Type 0
IsRefusalOf number (OfMethod.Untyped reported) (NoTyping method failure) = (method ≡ number) × (failure ≡ reported)
IsRefusalOf number OfMethod.OutOfMemory (NoTyping method failure) = ⊥
IsRefusalOf number error OutOfMemory = Unit {0}

-- the program, which is accepted, or the first method without a typing; out of memory says nothing of it (III.1.8)
abbrev pub IsVerdict : Tree → Result Tree VerifyError → Type 0
IsVerdict tree (Ok verified) = (verified ≡ tree) × IsAccepted tree
IsVerdict tree (Err (NoTyping method failure)) = IsFirstUntyped tree method
IsVerdict tree (Err OutOfMemory) = Unit {0}

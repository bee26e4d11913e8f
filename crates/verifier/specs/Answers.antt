-- The results of the steps of a search.
use Rattle.std.specs.Prelude.{pos, ◌≡◌, ◌≤◌, ◌+◌, ◌*◌, ℕ, suc, ℤ, Bool, true, false, List, [], ◌∷◌, length, map, slice_get, Option, Some, None, option_map, Result, Ok, Err}
use Rattle.cil_model.specs.declared.types.DeclaredType.{DeclaredType}
use Rattle.cil_model.specs.declared.trees.Tree.{Tree}
use Rattle.cil_model.specs.declared.trees.Code.{Code}
use Rattle.cil_model.specs.FlowRules.{StackAfter}
use Rattle.cil_model.specs.Typings.{Typing, IsCodeTyping}
use Rattle.cil_model.specs.declared.trees.Line.{Line}
use Rattle.resolved_code.specs.ResolvedPrograms.{AllAlike, IsOperation}
use Rattle.resolved_code.specs.declared.operations.Operation.{Operation}
use Rattle.flow_rules.specs.declared.method_types.MethodTypes.{MethodTypes}
use Rattle.flow_rules.specs.StackTypes.{type_named, types_named, stack_types}
use Rattle.verifier.specs.StackMerges.{AreMerged, AreApart}
use Rattle.verifier.specs.declared.merging.StackMerge.{StackMerge}
use Rattle.flow_rules.specs.declared.entries.StackEntry.{StackEntry}
use Rattle.flow_rules.specs.declared.mismatches.FlowError.{FlowError}
use Rattle.flow_rules.specs.declared.mismatches.FlowError.TheVariants as OfFlow
use Rattle.verifier.specs.Rises.{table_rises, most_values}
use Rattle.verifier.specs.Tables.{IsUnder, HasRisen, CannotRise, IsUnfinished}
use Rattle.verifier.specs.declared.failures.TypingError.{TypingError}
use Rattle.verifier.specs.declared.failures.TypingError.TheVariants.{Untyped, OutOfMemory}
use Rattle.verifier.specs.declared.search.RaiseError.{RaiseError}
use Rattle.verifier.specs.declared.search.RaiseError.TheVariants as OfRaise
use Rattle.verifier.specs.declared.search.Search.{Search}
use Rattle.verifier.specs.declared.search.Row.{Row}
use Rattle.verifier.specs.declared.search.Row.TheVariants.{Absent, Unmapped, Mapped}

-- The stack after an instruction is what the rule says; a mismatch is returned where the rule has no result.
abbrev pub IsResult : Tree → Result (List StackEntry) FlowError → StackAfter → Type 0
IsResult tree (Ok stack) after = after ≡ Some (stack_types tree stack)
IsResult tree (Err (OfFlow.Mismatch reason)) after = after ≡ None
IsResult tree (Err OfFlow.OutOfMemory) after = Unit {0}

-- the same, where a mismatch was reported with its pc
abbrev pub IsResultAt : Tree → Result (List StackEntry) TypingError → StackAfter → Type 0
IsResultAt tree (Ok stack) after = after ≡ Some (stack_types tree stack)
IsResultAt tree (Err (Untyped failure)) after = after ≡ None
IsResultAt tree (Err OutOfMemory) after = Unit {0}

-- The merge of two stacks, or that none is above both. Out of memory says nothing of them.
abbrev pub IsMergeAt : Tree → List StackEntry → List StackEntry → Result StackMerge RaiseError → Type 0
IsMergeAt tree one other (Ok merge) = AreMerged tree (stack_types tree one) (stack_types tree other) (stack_types tree merge.stack)
IsMergeAt tree one other (Err (OfRaise.Refused pc reason)) = AreApart tree (stack_types tree one) (stack_types tree other)
IsMergeAt tree one other (Err OfRaise.OutOfMemory) = Unit {0}

-- what is known of a pc
abbrev pub IsRow : List (Option (List StackEntry)) → ℕ → Row → Type 0
IsRow rows pc Absent = slice_get rows pc ≡ None
IsRow rows pc Unmapped = slice_get rows pc ≡ Some None
IsRow rows pc (Mapped known) = slice_get rows pc ≡ Some (Some known.now)

-- what the rows of a search say
abbrev pub typing_of : Tree → List (Option (List StackEntry)) → Typing
typing_of tree rows = map (option_map (stack_types tree)) rows

-- a search has one flag for each pc, so no pc is pending twice
abbrev pub IsWhole : Search → Type 0
IsWhole s = length s.is_pending.items ≡ length s.rows.items

-- how many pcs are pending
abbrev pub count_pending : List Bool → ℕ
count_pending [] = 0
count_pending (true ∷ rest) = suc (count_pending rest)
count_pending (false ∷ rest) = count_pending rest

-- what falls with each step of a search
abbrev pub work_left : Tree → ℤ → Search → ℕ
work_left tree max_stack s = 2 * table_rises tree (most_values max_stack) (typing_of tree s.rows.items) + count_pending s.is_pending.items

-- a stack was taken along these ways, and less is left to do
abbrev pub IsRisen : Tree → ℤ → List StackEntry → List ℕ → Search → Search → Type 0
IsRisen tree max_stack after ways old new =
    HasRisen tree max_stack (stack_types tree after) ways (typing_of tree old.rows.items) old.is_pending.items (typing_of tree new.rows.items) new.is_pending.items × (work_left tree max_stack new ≤ work_left tree max_stack old)

-- it can't be taken there
abbrev pub IsRefused : Tree → ℤ → List StackEntry → List ℕ → Search → Type 0
IsRefused tree max_stack after ways old = CannotRise tree max_stack (stack_types tree after) ways (typing_of tree old.rows.items)

-- One or the other. Out of memory says nothing of them.
abbrev pub IsRise : {T : Type 0} → Tree → ℤ → List StackEntry → List ℕ → Search → Search → Result T RaiseError → Type 0
IsRise tree max_stack after ways old new (Ok done) = IsRisen tree max_stack after ways old new
IsRise tree max_stack after ways old new (Err (OfRaise.Refused pc reason)) = IsRefused tree max_stack after ways old
IsRise tree max_stack after ways old new (Err OfRaise.OutOfMemory) = Unit {0}

-- the code with this .maxstack in place of its own
abbrev pub with_max_stack : ℕ → Code → Code
with_max_stack most code = record { is_entry_point = code.is_entry_point; max_stack = pos most; locals = code.locals; lines = code.lines }

-- a method's types, its operations and its .maxstack are those of its code
pub record AreOf (m : MethodTypes) (operations : List Operation) (max_stack : ℤ) (code : Code) : Type 0 where
  pub same_max : max_stack ≡ code.max_stack
  pub locals : types_named m.types.now m.locals.now ≡ code.locals
  pub resolved : AllAlike (λ (line : Line) operation. IsOperation m.types.now code.lines line.instruction operation) code.lines operations

-- what a search of a method's code has found is a typing but for pending pcs
abbrev pub IsOnTheWay : MethodTypes → Code → List (Option (List StackEntry)) → List Bool → Type 0
IsOnTheWay m code rows pending = IsUnfinished m.types.now (types_named m.types.now m.arguments.now) (option_map (type_named m.types.now) m.return_type) code (typing_of m.types.now rows) pending

-- the code has no typing
abbrev pub HasNone : MethodTypes → Code → Type 0
HasNone m code = (typing : Typing) → IsCodeTyping m.types.now (types_named m.types.now m.arguments.now) (option_map (type_named m.types.now) m.return_type) code typing → ⊥

-- a step of a search continues it, or shows that there is no typing
abbrev pub IsVisit : {T : Type 0} → MethodTypes → Code → Search → Result T TypingError → Type 0
IsVisit m code s (Ok done) = IsOnTheWay m code s.rows.items s.is_pending.items
IsVisit m code s (Err (Untyped failure)) = HasNone m code
IsVisit m code s (Err OutOfMemory) = Unit {0}

-- a typing that lies below every other
pub record IsLeastTyping (tree : Tree) (arguments : List DeclaredType) (return_type : Option DeclaredType) (code : Code) (found : Typing) : Type 0 where
  pub is_typing : IsCodeTyping tree arguments return_type code found
  pub under : (typing : Typing) → IsCodeTyping tree arguments return_type code typing → IsUnder tree found typing

-- The least typing, or that there is none. Out of memory says nothing of it.
abbrev pub IsTypingAnswer : Tree → List DeclaredType → Option DeclaredType → Code → Result (List (Option (List StackEntry))) TypingError → Type 0
IsTypingAnswer tree arguments return_type code (Ok rows) = IsLeastTyping tree arguments return_type code (typing_of tree rows)
IsTypingAnswer tree arguments return_type code (Err (Untyped failure)) = (typing : Typing) → IsCodeTyping tree arguments return_type code typing → ⊥
IsTypingAnswer tree arguments return_type code (Err OutOfMemory) = Unit {0}

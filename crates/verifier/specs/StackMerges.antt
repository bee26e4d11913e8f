-- What two stacks of types have in common (III.1.8.1.3).
use Rattle.std.specs.Prelude.{List, Result, Ok, Err}
use Rattle.cil_model.specs.declared.trees.Tree.{Tree}
use Rattle.cil_model.specs.TypeTree.{StackType, IsBelow, IsMerge}
use Rattle.cil_model.specs.Typings.{AreBelow}
use Rattle.flow_rules.specs.StackTypes.{stack_type, stack_types}
use Rattle.flow_rules.specs.declared.entries.StackEntry.{StackEntry}
use Rattle.verifier.specs.declared.merging.EntryMerge.{EntryMerge}
use Rattle.verifier.specs.declared.merging.StackMerge.{StackMerge}
use Rattle.verifier.specs.declared.merging.MergeError.{MergeError}
use Rattle.verifier.specs.declared.merging.MergeError.TheVariants.{Apart, OutOfMemory}

-- the result of a merge of two entries
abbrev pub IsEntryMerge : Tree → StackEntry → StackEntry → Result EntryMerge MergeError → Type 0
IsEntryMerge tree one other (Ok merge) = IsMerge tree (stack_type tree one) (stack_type tree other) (stack_type tree merge.entry)
IsEntryMerge tree one other (Err (Apart reason)) = (above : StackType) → IsBelow tree (stack_type tree one) above → IsBelow tree (stack_type tree other) above → ⊥
IsEntryMerge tree one other (Err OutOfMemory) = Unit {0}

-- the closest stack above two others: above both, and below whatever is above both
pub record AreMerged (tree : Tree) (one other merged : List StackType) : Type 0 where
  pub above_first : AreBelow tree one merged
  pub above_second : AreBelow tree other merged
  pub least : (above : List StackType) → AreBelow tree one above → AreBelow tree other above → AreBelow tree merged above

-- no stack is above both
abbrev pub AreApart : Tree → List StackType → List StackType → Type 0
AreApart tree one other = (above : List StackType) → AreBelow tree one above → AreBelow tree other above → ⊥

-- The result of a merge: the merged stack, or that no stack is above both. Out of memory says nothing of them.
abbrev pub IsStackMerge : Tree → List StackEntry → List StackEntry → Result StackMerge MergeError → Type 0
IsStackMerge tree one other (Ok merge) = AreMerged tree (stack_types tree one) (stack_types tree other) (stack_types tree merge.stack)
IsStackMerge tree one other (Err (Apart reason)) = AreApart tree (stack_types tree one) (stack_types tree other)
IsStackMerge tree one other (Err OutOfMemory) = Unit {0}

-- How far what is known of a value may still rise, which shows that a search ends.
use Rattle.std.specs.Prelude.{◌+◌, ◌*◌, ◌^◌, ℕ, zero, suc, ℤ, pos, negsuc, List, [], ◌∷◌, Option, Some, None}
use Rattle.std.specs.Option.{option_map_or}
use Rattle.cil_model.specs.declared.types.DeclaredType.{DeclaredType}
use Rattle.cil_model.specs.declared.trees.Tree.{Tree}
use Rattle.cil_model.specs.Chains.{longest_chain}
use Rattle.cil_model.specs.TypeTree.{StackType, Declared, NativeInt, Null, parent}

-- how many types lie above one, up to n parents
unfoldable pub rises_within : Tree → ℕ → DeclaredType → ℕ
rises_within tree zero t = 0
rises_within tree (suc n) t = option_map_or (λ p. suc (rises_within tree n p)) (parent tree t) 0

-- more parents than any type has above it whose brackets are counted in 32 bits
unfoldable pub most_rises : Tree → ℕ
most_rises tree = longest_chain tree + 2 ^ 32 + 2

-- the same of what is known of a value; null may become any reference
abbrev pub rises : Tree → StackType → ℕ
rises tree (Declared t) = rises_within tree (most_rises tree) t
rises tree NativeInt = 0
rises tree Null = suc (most_rises tree)

-- of all that is known of a stack
abbrev pub stack_rises : Tree → List StackType → ℕ
stack_rises tree [] = 0
stack_rises tree (a ∷ as') = rises tree a + stack_rises tree as'

-- of a pc, where a stack holds at most `most` types
abbrev pub row_rises : Tree → ℕ → Option (List StackType) → ℕ
row_rises tree most None = suc (most * suc (most_rises tree))
row_rises tree most (Some stack) = stack_rises tree stack

-- of all pcs
abbrev pub table_rises : Tree → ℕ → List (Option (List StackType)) → ℕ
table_rises tree most [] = 0
table_rises tree most (row ∷ rows) = row_rises tree most row + table_rises tree most rows

-- the most values that a stack may hold
abbrev pub most_values : ℤ → ℕ
most_values (pos n) = n
most_values (negsuc n) = 0

-- a number of values, where it is one
abbrev pub as_natural : ℤ → Option ℕ
as_natural (pos n) = Some n
as_natural (negsuc n) = None

-- The stacks that a search has found so far, and what a step of it does.
use Rattle.std.specs.Prelude.{◌≡◌, ◌⊎◌, ◌+◌, ℕ, ℤ, pos, ◌≤ℤ◌, Bool, true, IsTrue, List, [], length, Option, Some, slice_get, Contains}
use Rattle.cil_model.specs.declared.types.DeclaredType.{DeclaredType}
use Rattle.cil_model.specs.declared.trees.Tree.{Tree}
use Rattle.cil_model.specs.declared.trees.Code.{Code}
use Rattle.cil_model.specs.declared.trees.Line.{Line}
use Rattle.cil_model.specs.Bodies.{pc_of, falls_through, labels_of}
use Rattle.cil_model.specs.TypeTree.{StackType}
use Rattle.cil_model.specs.FlowRules.{flow}
use Rattle.cil_model.specs.Typings.{Typing, Reaches, FlowsOn, IsCodeTyping}

-- no stack is higher
abbrev pub AreLow : ℤ → Typing → Type 0
AreLow max_stack typing = (pc : ℕ) (stack : List StackType) → slice_get typing pc ≡ Some (Some stack) → pos (length stack) ≤ℤ max_stack

-- what was found lies below a typing
abbrev pub IsUnder : Tree → Typing → Typing → Type 0
IsUnder tree found typing = (pc : ℕ) (stack : List StackType) → slice_get found pc ≡ Some (Some stack) → Reaches tree typing stack pc

-- a stack reaches each of these pcs
abbrev pub ReachesAll : Tree → Typing → List StackType → List ℕ → Type 0
ReachesAll tree typing after ways = (way : ℕ) → Contains ways way → Reaches tree typing after way

-- a pc's flag is set: the pcs that its stack reaches are still to be looked at
abbrev pub IsPending : List Bool → ℕ → Type 0
IsPending pending pc = slice_get pending pc ≡ Some true

-- A stack was taken along these ways: what was found rose where it had to, as little as it could, and pcs that changed are pending.
-- The number of flags stays.
pub record HasRisen (tree : Tree) (max_stack : ℤ) (after : List StackType) (ways : List ℕ) (found : Typing) (pending : List Bool) (later : Typing) (still_pending : List Bool) : Type 0 where
  pub whole : length later ≡ length found
  pub reached : ReachesAll tree later after ways
  pub kept : (pc : ℕ) (stack : List StackType) → Reaches tree found stack pc → Reaches tree later stack pc
  pub others : (pc : ℕ) → (slice_get later pc ≡ slice_get found pc) ⊎ IsPending still_pending pc
  pub waiting : (pc : ℕ) → IsPending pending pc → IsPending still_pending pc
  pub flags : length still_pending ≡ length pending
  pub least : (typing : Typing) → IsUnder tree found typing → ReachesAll tree typing after ways → IsUnder tree later typing
  pub low : AreLow max_stack found → AreLow max_stack later

-- no typing of this number of pcs, of stacks that are no higher, lies above what was found and is reached along these ways
abbrev pub CannotRise : Tree → ℤ → List StackType → List ℕ → Typing → Type 0
CannotRise tree max_stack after ways found = (typing : Typing) → length typing ≡ length found → AreLow max_stack typing → IsUnder tree found typing → ReachesAll tree typing after ways → ⊥

-- the pcs at which control may continue after an instruction are exactly these
pub record AreWays (code : Code) (pc : ℕ) (line : Line) (ways : List ℕ) : Type 0 where
  pub falls : IsTrue (falls_through line.instruction) → Contains ways (pc + 1)
  pub branches : (label : List ℕ) → Contains (labels_of line.instruction) label → (way : ℕ) × (pc_of label code.lines ≡ Some way) × Contains ways way
  pub only : (way : ℕ) → Contains ways way → (IsTrue (falls_through line.instruction) × (way ≡ pc + 1)) ⊎ ((label : List ℕ) × Contains (labels_of line.instruction) label × (pc_of label code.lines ≡ Some way))

-- a method's arguments, the type that it returns, and its code
module _ (tree : Tree) (arguments : List DeclaredType) (return_type : Option DeclaredType) (code : Code) where
  -- at the pc, the instruction's result lies below what each way on is mapped to
  abbrev pub IsDecided : Typing → ℕ → Type 0
  IsDecided found pc = (line : Line) (stack : List StackType) → slice_get code.lines pc ≡ Some line → slice_get found pc ≡ Some (Some stack) →
      (after : List StackType) × (flow tree arguments code.locals return_type line.instruction stack ≡ Some after) × FlowsOn tree code found pc line after

  -- a typing but for pcs that are pending, which lies below every typing
  pub record IsUnfinished (found : Typing) (pending : List Bool) : Type 0 where
    pub whole : length found ≡ length code.lines
    pub start : Reaches tree found [] 0
    pub low : AreLow code.max_stack found
    pub decided : (pc : ℕ) → IsDecided found pc ⊎ IsPending pending pc
    pub under : (typing : Typing) → IsCodeTyping tree arguments return_type code typing → IsUnder tree found typing

-- What comparisons of integers do to frames alone, and what an instruction that may fault leaves where it doesn't (III.3).
use Rattle.std.specs.Prelude.{◌≡◌, ℕ, Bool, true, false, Option, Some, None}
use Rattle.cil_model.specs.declared.instructions.BranchComparison.{BranchComparison}
use Rattle.cil_model.specs.declared.instructions.BranchComparison.TheVariants as Branch
use Rattle.cil_model.specs.declared.instructions.BranchCondition.{BranchCondition}
use Rattle.cil_model.specs.declared.instructions.BranchCondition.TheVariants as conditions
use Rattle.cil_model.specs.declared.instructions.Comparison.{Comparison}
use Rattle.cil_model.specs.declared.instructions.Comparison.TheVariants as Compare
use Rattle.cil_model.specs.declared.reports.Fault.{Fault}
use Rattle.object_memory.specs.declared.values.Value.{Value}
use Rattle.object_memory.specs.declared.values.Value.TheVariants.{Int32, Int64}
use Rattle.reference_machine.specs.Values.{Int32 as Int32Value, Int64 as Int64Value}
use Rattle.reference_machine.specs.Arithmetic.{branch_values, comparison_holds}
use Rattle.threads_monitors.specs.Frames.{Frames}
use Rattle.threads_monitors.specs.declared.effects.Effect.TheVariants.{Raises}
use Rattle.instructions.specs.Frames.{Transition, branch_by, when_some, value_pushed, one_or_zero, with_top}

-- a comparison that has a meaning for integers alone
abbrev pub is_ordered : Comparison → Bool
is_ordered Compare.Equal = false
is_ordered Compare.Greater = true
is_ordered Compare.Less = true

abbrev pub is_ordered_branch : BranchComparison → Bool
is_ordered_branch Branch.Equal = false
is_ordered_branch Branch.NotEqual = false
is_ordered_branch Branch.GreaterOrEqual = true
is_ordered_branch Branch.Greater = true
is_ordered_branch Branch.LessOrEqual = true
is_ordered_branch Branch.Less = true

-- a branch that compares no references
abbrev pub is_local_branch : BranchCondition → Bool
is_local_branch (conditions.Compare op) = is_ordered_branch op
is_local_branch _ = true

-- two integers of one size
abbrev pub integers_compared : Comparison → Value → Value → Option Bool
integers_compared op (Int32 x) (Int32 y) = Some (comparison_holds op x y)
integers_compared op (Int64 x) (Int64 y) = Some (comparison_holds op x y)
integers_compared op _ _ = None

abbrev pub integers_branch : BranchComparison → Value → Value → Option Bool
integers_branch op (Int32 x) (Int32 y) = branch_values op (Int32Value x) (Int32Value y)
integers_branch op (Int64 x) (Int64 y) = branch_values op (Int64Value x) (Int64Value y)
integers_branch op _ _ = None

-- cgt (III.3.22) and clt (III.3.25)
abbrev pub compare_integers_transition : Comparison → Frames → Transition
compare_integers_transition op m = with_top m (λ w n. with_top n (λ v k. when_some (integers_compared op v w) (λ holds. value_pushed (one_or_zero holds) k)))

-- a branch that compares integers (III.3.5 to III.3.18)
abbrev pub local_branch_transition : BranchCondition → ℕ → Frames → Transition
local_branch_transition condition pc m = branch_by integers_branch condition pc m

-- a rule raises a fault
abbrev pub IsFaulty : Transition → Type 0
IsFaulty transition = (m : Frames) × (f : Fault) × (transition ≡ Some (m, Raises f))

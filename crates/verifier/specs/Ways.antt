-- Where control continues after an operation (III.1.7.2).
use Rattle.std.specs.Prelude.{ℕ, Bool, true, false, if◌then◌else◌, List, [], ◌∷◌, ◌++◌}
use Rattle.cil_model.specs.declared.instructions.BranchCondition.TheVariants as conditions
use Rattle.resolved_code.specs.declared.operations.Operation.{Operation}
use Rattle.resolved_code.specs.declared.operations.Operation.TheVariants.{Branch, Switch, Return}

-- whether control may advance to the next one
abbrev pub falls : Operation → Bool
falls (Branch conditions.Always pc) = false
falls Return = false
falls _ = true

-- the pcs that it names
abbrev pub targets : Operation → List ℕ
targets (Branch condition pc) = pc ∷ []
targets (Switch pcs) = pcs
targets _ = []

-- all of them, and the next one
abbrev pub ways_on : Operation → ℕ → List ℕ
ways_on op next = targets op ++ (if falls op then next ∷ [] else [])

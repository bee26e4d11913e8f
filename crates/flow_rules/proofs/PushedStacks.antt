-- What a push leaves on a stack.
use Rattle.std.proofs.Common.{◌≡◌, List, ◌∷◌, Some, sym, ap, subst}
use Rattle.std.specs.Prelude.{Result, Ok, Err, OnOk, IfErr}
use Rattle.cil_model.specs.declared.trees.Tree.{Tree}
use Rattle.flow_rules.specs.StackTypes.{stack_type, stack_types}
use Rattle.flow_rules.specs.Flow.{IsAfter}
use Rattle.flow_rules.specs.declared.entries.StackEntry.{StackEntry}
use Rattle.flow_rules.specs.declared.mismatches.FlowError.{FlowError}
use Rattle.flow_rules.specs.declared.mismatches.FlowError.TheVariants.{OutOfMemory}

module _ (T : Type 0) (tree : Tree) where
  pub after_push : (r : Result T FlowError) (entry : StackEntry) (old new : List StackEntry) → OnOk r (new ≡ entry ∷ old) → IfErr r (λ e. e ≡ OutOfMemory) → IsAfter tree r new (Some (stack_type tree entry ∷ stack_types tree old))
  after_push (Ok done) entry old new pushed refused = ap (λ (s : List StackEntry). Some (stack_types tree s)) (sym pushed)
  after_push (Err e) entry old new pushed refused = let P : FlowError → Type 0 = λ x. IsAfter {T = T} tree (Err x) new (Some (stack_type tree entry ∷ stack_types tree old)) in subst P (sym refused) tt

-- The classes of a whole tree are resolved, and a legal tree has no unresolved name.
use Rattle.std.proofs.Common.{◌≡◌, ◌≢◌, is_some, true, List, None, Result, Ok, Err, sym, ap, ◌∙◌}
use Rattle.std.specs.Prelude.{IfOk}
use Rattle.cil_model.specs.declared.trees.Tree.{Tree}
use Rattle.cil_model.specs.Legality.{IsLegal}
use Rattle.resolved_code.specs.declared.classes.ResolvedClass.{ResolvedClass}
use Rattle.resolved_code.specs.declared.errors.ResolveError.{ResolveError}
use Rattle.resolved_code.specs.declared.errors.ResolveError.TheVariants.{Unresolved}
use Rattle.resolved_code.specs.Outcomes.{Gives}
use Rattle.resolved_code.specs.ResolvedPrograms.{AreResolved}
use Rattle.resolved_code.specs.Rules.{classes_rule}
use Rattle.resolved_code.proofs.InstructionOperations.ResolvedNames.{classes_refine}
use Rattle.resolved_code.proofs.LegalPrograms.FoundNames.{classes_found}

module _ (tree : Tree) where
  pub all_resolved : (r : Result (List ResolvedClass) ResolveError) → Gives r (classes_rule tree) → IfOk r (AreResolved tree)
  all_resolved (Ok classes) e = classes_refine tree classes e
  all_resolved (Err error) e = tt

  pub all_found : (r : Result (List ResolvedClass) ResolveError) → Gives r (classes_rule tree) → IsLegal tree → r ≢ Err Unresolved
  all_found (Err Unresolved) e legal = λ same. let lost : is_some {T = List ResolvedClass} None ≡ true = sym (ap is_some e) ∙ classes_found tree legal in cc
  all_found _ e legal = λ same. cc

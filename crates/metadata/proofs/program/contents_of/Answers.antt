use Rattle.std.proofs.Common.{◌≡◌, ◌≢◌, Some, Result, Ok, Err, sym, ap, ◌∙◌, option_map}
use Rattle.std.specs.Prelude.{IfErr, IsErrAnd}
use Rattle.cil_model.specs.declared.trees.Tree.{Tree}
use Rattle.cil_model.specs.Legality.{least_broken}
use Rattle.metadata.specs.RuleNumbers.{violation_number, number_of}
use Rattle.metadata.specs.declared.program.MetaError.{MetaError}
use Rattle.metadata.specs.declared.program.MetaError.TheVariants.{OutOfMemory}
use Rattle.metadata.proofs.program.contents_of.Goals as goal

-- out of memory breaks no rule
of_memory : {T : Type 0} (tree : Tree) (r : Result T MetaError) → IsErrAnd r (λ e. e ≡ OutOfMemory) → IfErr r (λ e. e ≢ OutOfMemory → least_broken tree ≡ Some (number_of e))
of_memory tree (Ok x) h = tt
of_memory tree (Err e) h = λ other. absurd (other h)

pub of_legal-requires : goal.of_legal-requires
of_legal-requires c = sym c.in_ok-least_broken.ensures ∙ ap (option_map violation_number) c.in-None.is

pub returns-in_ok-of_legal-in-None-clause-legal : goal.returns-in_ok-of_legal-in-None-clause-legal
returns-in_ok-of_legal-in-None-clause-legal c = (sym c.in_ok-least_broken.ensures ∙ ap (option_map violation_number) c.in-None.is, c.in_ok-of_legal-in-None.ensures)

pub returns-in-Some-clause-broken : goal.returns-in-Some-clause-broken
returns-in-Some-clause-broken c = λ _. sym c.in_ok-least_broken.ensures ∙ ap (option_map violation_number) c.in-Some.is

pub returns-in_err-least_broken-clause-broken : goal.returns-in_err-least_broken-clause-broken
returns-in_err-least_broken-clause-broken c = of_memory c.args.names.now.classes.tree.now c.from_residual.result c.from_residual.ensures.1

pub returns-in_err-of_legal-in-None-clause-broken : goal.returns-in_err-of_legal-in-None-clause-broken
returns-in_err-of_legal-in-None-clause-broken c = of_memory c.args.names.now.classes.tree.now c.from_residual-in_err-of_legal-in-None.result c.from_residual-in_err-of_legal-in-None.ensures.1

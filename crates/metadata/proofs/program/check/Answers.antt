use Rattle.std.proofs.Common.{◌≡◌, ◌≢◌, Some, subst}
use Rattle.std.specs.Prelude.{IfOk, IfErr}
use Rattle.cil_model.specs.declared.trees.Tree.{Tree}
use Rattle.cil_model.specs.Legality.{IsLegal, least_broken}
use Rattle.resolved_code.specs.Contents.{IsContents}
use Rattle.metadata.specs.RuleNumbers.{number_of}
use Rattle.metadata.specs.declared.program.MetaError.TheVariants.{OutOfMemory}
use Rattle.metadata.proofs.program.check.Goals as goal

pub returns-clause-legal : goal.returns-clause-legal
returns-clause-legal c = subst (λ (t : Tree). IfOk c.contents_of.result (λ x. IsLegal t × IsContents t x)) c.in_ok-names.ensures c.contents_of.ensures.legal

pub returns-clause-broken : goal.returns-clause-broken
returns-clause-broken c = subst (λ (t : Tree). IfErr c.contents_of.result (λ e. e ≢ OutOfMemory → least_broken t ≡ Some (number_of e))) c.in_ok-names.ensures c.contents_of.ensures.broken

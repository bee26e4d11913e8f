use Rattle.std.proofs.Common.{sym, subst}
use Rattle.resolved_code.specs.ResolvedPrograms.{AreResolved}
use Rattle.resolved_code.proofs.program.Program.classes.Goals as goal

pub returns : goal.returns
returns c = subst (λ t. AreResolved t c.as_slice.result.now) c.self.view_is (subst (λ rs. AreResolved c.self.inside.tree rs) (sym c.as_slice.ensures) c.self.invariant.1.classes)

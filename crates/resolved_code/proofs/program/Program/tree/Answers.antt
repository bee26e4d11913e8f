use Rattle.std.proofs.Common.{subst}
use Rattle.cil_model.specs.Legality.{IsLegal}
use Rattle.resolved_code.proofs.program.Program.tree.Goals as goal

pub returns-clause-legal : goal.returns-clause-legal
returns-clause-legal c = subst IsLegal c.self.view_is c.self.invariant.0

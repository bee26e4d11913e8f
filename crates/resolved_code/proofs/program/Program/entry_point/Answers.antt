use Rattle.std.proofs.Common.{subst}
use Rattle.resolved_code.specs.Contents.{IsEntryPoint}
use Rattle.resolved_code.proofs.program.Program.entry_point.Goals as goal

pub returns : goal.returns
returns c = subst (λ t. IsEntryPoint t c.self.inside.contents.entry_point) c.self.view_is c.self.invariant.1.entry_point

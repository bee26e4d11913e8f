use Rattle.std.proofs.Common.{ap, ◌∙◌}
use Rattle.cil_model.specs.Mentions.{literals_of}
use Rattle.resolved_code.proofs.program.Program.literals.Goals as goal

pub returns : goal.returns
returns c = c.as_slice.ensures ∙ c.self.invariant.1.literals ∙ ap literals_of c.self.view_is

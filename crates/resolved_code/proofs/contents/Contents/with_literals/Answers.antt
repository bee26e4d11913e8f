use Rattle.std.proofs.Common.{ap, ◌∙◌}
use Rattle.cil_model.specs.Mentions.{literals_of}
use Rattle.resolved_code.proofs.contents.Contents.with_literals.Goals as goal

pub returns : goal.returns
returns c = record {
  classes = c.in_ok-classes.ensures;
  literals = c.in_ok-texts.ensures ∙ ap literals_of c.requires.literals;
  entry_point = c.entry_of_legal-entry_point.ensures;
}

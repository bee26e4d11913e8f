use Rattle.std.proofs.Common.{ap}
use Rattle.std.specs.Prelude.{Some}
use Rattle.clap.specs.Words.{Rule, Text}
use Rattle.command_line.proofs.clap_commands.text_option.Goals as goal

abbrev as_option : Text → Rule → Rule
as_option id rule = record rule { long = Some id; value_names = 1 }

pub returns : goal.returns
returns c =
    (rw (c.help.ensures, c.value_name.ensures, c.long.ensures) (ap (as_option c.args.id.now) c.new.ensures.rule), rw (c.help.ensures, c.value_name.ensures, c.long.ensures) c.new.ensures.optional.1)

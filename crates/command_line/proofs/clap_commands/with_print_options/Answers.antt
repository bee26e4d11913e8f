use Rattle.command_line.specs.CommandLine.{with_output}
use Rattle.command_line.proofs.clap_commands.with_print_options.Goals as goal

pub returns : goal.returns
returns c app is = c.with_stats.ensures (with_output app) (c.with_output.ensures app is)

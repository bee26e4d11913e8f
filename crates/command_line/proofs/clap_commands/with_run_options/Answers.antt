use Rattle.command_line.specs.CommandLine.{with_explain}
use Rattle.command_line.proofs.clap_commands.with_run_options.Goals as goal

pub returns : goal.returns
returns c app is = c.with_limits.ensures (with_explain app) (c.with_explain.ensures app is)

use Rattle.command_line.proofs.clap_commands.with_explain.Goals as goal

pub returns : goal.returns
returns c app is = c.with_argument.ensures app _ is c.flag.ensures

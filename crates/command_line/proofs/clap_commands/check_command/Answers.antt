use Rattle.command_line.proofs.clap_commands.check_command.Goals as goal

pub returns : goal.returns
returns c = c.with_explain.ensures _ c.source_command-command.ensures

use Rattle.command_line.proofs.clap_commands.trace_command.Goals as goal

pub returns : goal.returns
returns c = c.with_given_limits.ensures _ (c.with_explain.ensures _ c.with_files-command.ensures)

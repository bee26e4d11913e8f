use Rattle.command_line.proofs.clap_commands.with_files.Goals as goal

pub returns : goal.returns
returns c = c.with_argument.ensures _ _ c.source_command-command.ensures c.file_argument.ensures

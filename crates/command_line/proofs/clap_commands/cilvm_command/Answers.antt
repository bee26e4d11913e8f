use Rattle.command_line.proofs.clap_commands.cilvm_command.Goals as goal

pub returns : goal.returns
returns c = c.with_views.ensures _ (c.with_runs.ensures _ c.program.ensures)

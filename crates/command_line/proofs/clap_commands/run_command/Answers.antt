use Rattle.command_line.proofs.clap_commands.run_command.Goals as goal

pub returns : goal.returns
returns c =
    let first = c.with_argument.ensures _ _ c.source_command-command.ensures c.needed_text-schedule.ensures in
    c.with_run_options.ensures _ (c.with_print_options-command.ensures _ first)

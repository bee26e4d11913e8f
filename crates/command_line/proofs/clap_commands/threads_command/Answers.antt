use Rattle.command_line.proofs.clap_commands.threads_command.Goals as goal

pub returns : goal.returns
returns c =
    let first = c.with_argument-command.ensures _ _ c.source_command-command.ensures c.limit_option-workers.ensures in
    let second = c.with_argument-command-2.ensures _ _ first c.text_option-record.ensures in
    let third = c.with_argument.ensures _ _ second c.flag-stop.ensures in
    c.with_run_options.ensures _ (c.with_print_options-command.ensures _ third)

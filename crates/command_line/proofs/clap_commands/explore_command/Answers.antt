use Rattle.command_line.proofs.clap_commands.explore_command.Goals as goal

pub returns : goal.returns
returns c =
    let first = c.with_argument-command.ensures _ _ c.source_command-command.ensures c.limit_option-states.ensures in
    let second = c.with_argument-command-2.ensures _ _ first c.number_option-preemptions.ensures in
    let third = c.with_argument-command-3.ensures _ _ second c.text_option-until.ensures in
    c.with_run_options.ensures _ (c.with_argument.ensures _ _ third c.text_option-save.ensures)

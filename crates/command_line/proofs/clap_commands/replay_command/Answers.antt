use Rattle.command_line.proofs.clap_commands.replay_command.Goals as goal

pub returns : goal.returns
returns c =
    let first = c.with_print_options.ensures _ c.with_files-command.ensures in
    c.with_given_limits.ensures _ (c.with_explain-command.ensures _ first)

use Rattle.command_line.proofs.clap_commands.with_part.Goals as goal

pub returns : goal.returns
returns c app is =
    let first = c.with_argument-command.ensures _ _ is c.limit_option-first.ensures in
    c.with_argument.ensures _ _ first c.number_option-last.ensures

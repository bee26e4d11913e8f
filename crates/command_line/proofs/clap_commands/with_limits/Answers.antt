use Rattle.command_line.proofs.clap_commands.with_limits.Goals as goal

pub returns : goal.returns
returns c app is =
    let first = c.with_argument-command.ensures _ _ is c.limit_option-words.ensures in
    let most = c.with_argument-command-2.ensures _ _ first c.number_option-most.ensures in
    let second = c.with_argument-command-3.ensures _ _ most c.limit_option-budget.ensures in
    c.with_argument.ensures _ _ second c.limit_option-depth.ensures

use Rattle.command_line.specs.CommandLine.{explore_app, flip_app, picture_app, trace_app}
use Rattle.command_line.proofs.clap_commands.with_views.Goals as goal

pub returns : goal.returns
returns c app is =
    let first = c.with_command-program.ensures app trace_app is c.trace_command.ensures in
    let second = c.with_command-program-2.ensures _ picture_app first c.picture_command.ensures in
    let third = c.with_command-program-3.ensures _ explore_app second c.explore_command.ensures in
    c.with_command.ensures _ flip_app third c.flip_command.ensures

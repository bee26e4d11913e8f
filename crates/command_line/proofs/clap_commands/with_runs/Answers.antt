use Rattle.command_line.specs.CommandLine.{check_app, replay_app, run_app, threads_app}
use Rattle.command_line.proofs.clap_commands.with_runs.Goals as goal

pub returns : goal.returns
returns c app is =
    let first = c.with_command-program.ensures app check_app is c.check_command.ensures in
    let second = c.with_command-program-2.ensures _ threads_app first c.threads_command.ensures in
    let third = c.with_command-program-3.ensures _ run_app second c.run_command.ensures in
    c.with_command.ensures _ replay_app third c.replay_command.ensures

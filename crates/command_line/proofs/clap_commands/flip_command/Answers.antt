use Rattle.std.proofs.lemmas.Result.{IfOk-weaker}
use Rattle.command_line.proofs.CommandLemmas.{with_argument}
use Rattle.command_line.proofs.clap_commands.flip_command.Goals as goal

pub returns : goal.returns
returns c =
    let first = IfOk-weaker c.arg-command.result _ _ (λ r added. with_argument _ _ _ _ _ c.new_command-command.ensures c.needed_number-seats.ensures added) c.arg-command.ensures in
    let second = c.with_argument-command.ensures _ _ first c.needed_number-objects.ensures in
    let third = c.with_argument-command-2.ensures _ _ second c.needed_number-slots.ensures in
    c.with_argument.ensures _ _ third c.needed_number-rounds.ensures

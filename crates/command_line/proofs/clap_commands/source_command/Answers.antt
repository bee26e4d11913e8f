use Rattle.std.proofs.lemmas.Result.{IfOk-weaker}
use Rattle.command_line.proofs.CommandLemmas.{with_argument}
use Rattle.command_line.proofs.clap_commands.source_command.Goals as goal

pub returns : goal.returns
returns c = IfOk-weaker c.arg.result _ _ (λ r added. with_argument _ _ _ _ _ c.new_command-command.ensures c.file_argument.ensures added) c.arg.ensures

use Rattle.std.proofs.Common.{subst}
use Rattle.std.specs.Prelude.{IfOk}
use Rattle.std.proofs.lemmas.Result.{IfOk-weaker}
use Rattle.command_line.specs.CommandLine.{IsCommand}
use Rattle.command_line.proofs.CommandLemmas.{with_argument}
use Rattle.command_line.proofs.clap_commands.with_argument.Goals as goal

pub returns : goal.returns
returns c app rule is argument_is =
    let one : IsCommand app c.in-Ok.command = subst (λ r. IfOk r (IsCommand app)) c.in-Ok.is is in
    IfOk-weaker c.arg.result _ _ (λ r added. with_argument _ _ _ _ _ one argument_is added) c.arg.ensures

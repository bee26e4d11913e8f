use Rattle.std.proofs.Common.{◌∙◌, ◌≡◌, ap, ap₂, subst}
use Rattle.std.specs.Prelude.{IfOk}
use Rattle.std.proofs.lemmas.Result.{IfOk-weaker}
use Rattle.clap.specs.Words.{App, app_of, with_subcommand}
use Rattle.command_line.specs.CommandLine.{IsCommand}
use Rattle.command_line.proofs.clap_commands.with_command.Goals as goal

pub returns : goal.returns
returns c app own is made =
    let base : app_of c.in-Ok.program ≡ app = subst (λ r. IfOk r (λ p. app_of p ≡ app)) c.in-Ok.is is in
    let one : IsCommand own c.in-Ok-command.command = subst (λ r. IfOk r (IsCommand own)) c.in-Ok-command.is made in
    IfOk-weaker c.subcommand.result _ _ (λ r added. added.shape one.1 ∙ ap₂ with_subcommand base (ap (λ (a : App). a.top) one.0)) c.subcommand.ensures

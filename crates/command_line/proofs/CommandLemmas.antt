-- What a command is once something was added to it.
use Rattle.std.proofs.Common.{◌∙◌, ◌||◌, ap₂}
use Rattle.clap.specs.Words.{AddsArg, App, Rule, with_rule}
use Rattle.clap.specs.declared.builder.arg.Arg.{Arg}
use Rattle.clap.specs.declared.builder.command.Command.{Command}
use Rattle.command_line.specs.CommandLine.{IsArgument, IsCommand}

-- an argument
pub with_argument : (app : App) (rule : Rule) (old new : Command) (arg : Arg) → IsCommand app old → IsArgument rule arg → AddsArg old arg new → IsCommand (with_rule app rule) new
with_argument app rule old new arg is own added =
    (added.shape own.1 ∙ ap₂ with_rule is.0 own.0, added.globals ∙ ap₂ ◌||◌ is.1 own.1)

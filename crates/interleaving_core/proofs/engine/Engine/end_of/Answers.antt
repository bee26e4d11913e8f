use Rattle.std.proofs.Common.{ap, option_and_then, ◌∙◌}
use Rattle.threads_monitors.specs.Threads.{end_of}
use Rattle.interleaving_core.proofs.engine.Engine.end_of.Goals as goal

pub returns : goal.returns
returns c = c.end.ensures ∙ ap (option_and_then end_of) c.in_ok-thread.ensures

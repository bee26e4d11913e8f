use Rattle.std.proofs.Common.{◌≡◌, true, Some, sym, ap, ◌∙◌}
use Rattle.interpreter.specs.Local.{is_local_link}
use Rattle.interpreter.proofs.LocalKeeps.{local_keeps, plain_unless}
use Rattle.interpreter.proofs.local_runs.do_local.Goals as goal

pub returns-clause-done : goal.returns-clause-done
returns-clause-done c =
    let local : is_local_link c.args.instruction.now ≡ true = sym c.is_local.ensures ∙ c.if-not-is_local.false in
    let keeps = local_keeps c.args.instruction.now c.args.frames.now (c.execute_local.new.frames, c.execute_local.result) (sym c.execute_local.ensures) in
    let goes = keeps.goes (plain_unless c.args.instruction.now c.in_default.not-Binary) in
    λ _. (local, sym c.execute_local.ensures ∙ ap (λ e. Some (c.execute_local.new.frames, e)) goes)

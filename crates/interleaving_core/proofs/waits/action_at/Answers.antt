use Rattle.std.specs.Prelude.{is_some}
use Rattle.std.proofs.Common.{◌≡◌, sym, ap, ◌∙◌, None, option_map}
use Rattle.simulation.specs.loaded_program.LocalKinds.{action_named}
use Rattle.interleaving_core.specs.Waits.{called_member}
use Rattle.interleaving_core.proofs.Threads.AwaitedObjects.{member_acts, no_member}
use Rattle.interleaving_core.proofs.waits.action_at.Goals as goal

pub returns-in_err-method-clause-action : goal.returns-in_err-method-clause-action
returns-in_err-method-clause-action c =
    let none : called_member c.operation_at-operation.result.now ≡ None = sym c.called_member.ensures ∙ c.in_err-method.was in
    ap (option_map action_named) c.from_residual.ensures ∙ sym (no_member c.args.program.now c.args.frames.now c.operation_at-operation.result.now c.operation_at-operation.ensures none)

pub method-requires : goal.method-requires
method-requires c =
    let acting = member_acts c.args.program.now c.args.frames.now c.operation_at-operation.result.now c.operation_at-operation.ensures c.in_ok-method.method (sym c.called_member.ensures ∙ c.in_ok-method.was) in
    ap is_some (c.number.ensures acting.0 acting.1)

pub returns-clause-action : goal.returns-clause-action
returns-clause-action c =
    let acting = member_acts c.args.program.now c.args.frames.now c.operation_at-operation.result.now c.operation_at-operation.ensures c.in_ok-method.method (sym c.called_member.ensures ∙ c.in_ok-method.was) in
    (c.method.ensures.loaded acting.0 (c.number.ensures acting.0 acting.1)).action ∙ sym acting.2

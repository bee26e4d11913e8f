use Rattle.std.proofs.Common.{◌≡◌, ap, sym, subst, ◌∙◌, true, Some}
use Rattle.std.specs.Prelude.{IsSome, IfOk, OnErr, is_some}
use Rattle.interpreter.specs.Calls.{grows_console, call_answer}
use Rattle.interpreter.proofs.VirtualReceivers.{receiving, choosing, on_null, target_runs, target_there}
use Rattle.interpreter.proofs.calls.run_virtual.Goals as goal

pub receiver-object-requires : goal.receiver-object-requires
receiver-object-requires c =
    ap is_some (receiving c.args.program.now c.args.mutator c.args.number c.args.operands c.args.frames.now c.args.store.now.heap c.args.store.now.console.items c.requires).object_is

pub returns-then-is_null-clause-done : goal.returns-then-is_null-clause-done
returns-then-is_null-clause-done c =
    sym (on_null c.args.program.now c.args.mutator c.args.number c.args.operands c.args.frames.now c.args.store.now.heap c.args.store.now.console.items c.requires c.receiver-object.result c.receiver-object.ensures (sym c.is_null.ensures ∙ c.if-is_null.true))

pub class_id-requires : goal.class_id-requires
class_id-requires c =
    ap is_some (choosing c.args.program.now c.args.mutator c.args.number c.args.operands c.args.frames.now c.args.store.now.heap c.args.store.now.console.items c.requires c.receiver-object.result c.receiver-object.ensures (sym c.is_null.ensures ∙ c.if-is_null.false)).class_is

pub target-target-requires : goal.target-target-requires
target-target-requires c =
    target_there c.args.program.now c.args.mutator c.args.number c.args.operands c.args.frames.now c.args.store.now.heap c.args.store.now.console.items c.requires c.receiver-object.result c.receiver-object.ensures (sym c.is_null.ensures ∙ c.if-is_null.false) c.class_id.result c.class_id.ensures

pub run-requires : goal.run-requires
run-requires c =
    subst IsSome (target_runs c.args.program.now c.args.mutator c.args.number c.args.operands c.args.frames.now c.args.store.now.heap c.args.store.now.console.items c.requires c.receiver-object.result c.receiver-object.ensures (sym c.is_null.ensures ∙ c.if-is_null.false) c.class_id.result c.target-target.result
    c.class_id.ensures c.target-target.ensures) c.requires

pub returns-clause-done : goal.returns-clause-done
returns-clause-done c =
    subst (λ t. IfOk c.run.result (λ outcome. Some (call_answer c.run.new.frames c.run.new.store.heap c.run.new.store.console.items outcome) ≡ t))
    (sym (target_runs c.args.program.now c.args.mutator c.args.number c.args.operands c.args.frames.now c.args.store.now.heap c.args.store.now.console.items c.requires c.receiver-object.result c.receiver-object.ensures (sym c.is_null.ensures ∙ c.if-is_null.false) c.class_id.result c.target-target.result
    c.class_id.ensures c.target-target.ensures)) c.run.ensures.done

pub returns-clause-prints : goal.returns-clause-prints
returns-clause-prints c =
    subst (λ t. OnErr c.run.result (grows_console c.args.store.now.console.items t ≡ true))
    (sym (target_runs c.args.program.now c.args.mutator c.args.number c.args.operands c.args.frames.now c.args.store.now.heap c.args.store.now.console.items c.requires c.receiver-object.result c.receiver-object.ensures (sym c.is_null.ensures ∙ c.if-is_null.false) c.class_id.result c.target-target.result
    c.class_id.ensures c.target-target.ensures)) c.run.ensures.prints

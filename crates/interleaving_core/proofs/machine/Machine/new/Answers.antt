use Rattle.std.proofs.Common.{◌≡◌, ◌∙◌, [], arith, refl, sym, true}
use Rattle.std.proofs.lemmas.Result.{IfOk-from_err}
use Rattle.cil_model.specs.Ranges.{are_in_range}
use Rattle.interleaving_core.specs.Views.{machine_state_of}
use Rattle.interleaving_core.proofs.Runs.LongerRuns.{has_done}
use Rattle.interleaving_core.proofs.Runs.RepresentedStates.{opened_represents}
use Rattle.interleaving_core.proofs.machine.Machine.new.Goals as goal

pub invariant_of-result : goal.invariant_of-result
invariant_of-result c =
    let e = c.in_ok-open_engine.field-0 in
    let in_range : are_in_range c.args.limits ≡ true = sym c.are_in_range.ensures ∙ c.if-not-are_in_range.false in
    let first = opened_represents c.args.program c.args.limits c.in_ok-open_engine.ensures.accepted in_range (machine_state_of e) c.in_ok-open_engine.ensures.initial_state in
    record {
      state = first.0;
      represents = first.2;
      few = omega (arith, c.in_ok-open_engine.ensures.alone);
    }

pub returns-clause-initial_state : goal.returns-clause-initial_state
returns-clause-initial_state c =
    let in_range : are_in_range c.args.limits ≡ true = sym c.are_in_range.ensures ∙ c.if-not-are_in_range.false in
    opened_represents c.args.program c.args.limits c.in_ok-open_engine.ensures.accepted in_range (machine_state_of c.in_ok-open_engine.field-0) c.in_ok-open_engine.ensures.initial_state

pub returns-clause-done : goal.returns-clause-done
returns-clause-done c =
    let first = machine_state_of c.in_ok-open_engine.field-0 in
    has_done c.args.program c.args.limits first first [] [] c.in_ok-open_engine.ensures.accepted (sym c.are_in_range.ensures ∙ c.if-not-are_in_range.false) c.in_ok-open_engine.ensures.initial_state (refl, refl)

pub returns-in_err-open_engine-clause-program : goal.returns-in_err-open_engine-clause-program
returns-in_err-open_engine-clause-program c = IfOk-from_err c.from_residual.result _ c.from_residual.ensures.0

pub returns-in_err-open_engine-clause-begins : goal.returns-in_err-open_engine-clause-begins
returns-in_err-open_engine-clause-begins c = IfOk-from_err c.from_residual.result _ c.from_residual.ensures.0

pub returns-in_err-open_engine-clause-initial_state : goal.returns-in_err-open_engine-clause-initial_state
returns-in_err-open_engine-clause-initial_state c = IfOk-from_err c.from_residual.result _ c.from_residual.ensures.0

pub returns-in_err-open_engine-clause-done : goal.returns-in_err-open_engine-clause-done
returns-in_err-open_engine-clause-done c = IfOk-from_err c.from_residual.result _ c.from_residual.ensures.0

pub returns-clause-program : goal.returns-clause-program
returns-clause-program c = c.in_ok-open_engine.ensures.program

pub returns-clause-begins : goal.returns-clause-begins
returns-clause-begins c = c.in_ok-open_engine.ensures.initial_state

use Rattle.std.proofs.Common.{subst}
use Rattle.std.specs.Prelude.{IfErr, IfOk}
use Rattle.driver.proofs.Names.{HasExplored, HasNotTraced, HasTraced, IsDrawn, IsDrawnInPart, IsTracedUpTo, IsGivenUp, output_state}
use Rattle.driver.proofs.driving.perform.Goals as goal

pub returns-in-Check-clause-done : goal.returns-in-Check-clause-done
returns-in-Check-clause-done g c = rw c.in-Check.is c.check.ensures.done

pub returns-in-Check-clause-given_up : goal.returns-in-Check-clause-given_up
returns-in-Check-clause-given_up g c = rw c.in-Check.is c.check.ensures.given_up

pub returns-in-Run-clause-done : goal.returns-in-Run-clause-done
returns-in-Run-clause-done g c = rw c.in-Run.is c.perform_run.ensures.done

pub returns-in-Run-clause-given_up : goal.returns-in-Run-clause-given_up
returns-in-Run-clause-given_up g c = rw c.in-Run.is c.perform_run.ensures.given_up

pub returns-in-Trace-clause-done : goal.returns-in-Trace-clause-done
returns-in-Trace-clause-done g c =
    let at = output_state g.W.Out.taken g.E.Out.taken in
    rw c.in-Trace.is (subst (λ limits. IfOk c.show_trace.result (HasTraced c.args.source.now limits c.args.schedule.now c.in-Trace.explain (at c.args.outputs.now) (at c.show_trace.new.outputs))) c.limits_for.ensures c.show_trace.ensures.done)

pub returns-in-Trace-clause-given_up : goal.returns-in-Trace-clause-given_up
returns-in-Trace-clause-given_up g c =
    let at = output_state g.W.Out.taken g.E.Out.taken in
    rw c.in-Trace.is (subst (λ limits. IfErr c.show_trace.result (IsGivenUp (HasNotTraced c.args.source.now limits c.args.schedule.now) (IsTracedUpTo c.args.source.now limits c.args.schedule.now c.in-Trace.explain) (at c.args.outputs.now) (at c.show_trace.new.outputs))) c.limits_for.ensures c.show_trace.ensures.given_up)

pub returns-in-Picture-clause-done : goal.returns-in-Picture-clause-done
returns-in-Picture-clause-done g c =
    let at = output_state g.W.Out.taken g.E.Out.taken in
    rw c.in-Picture.is (subst (λ limits. IfOk c.show_picture.result (IsDrawn c.args.source.now limits c.args.schedule.now c.in-Picture.part c.in-Picture.explain (at c.args.outputs.now) (at c.show_picture.new.outputs))) c.limits_for-in-Picture.ensures c.show_picture.ensures.done)

pub returns-in-Picture-clause-given_up : goal.returns-in-Picture-clause-given_up
returns-in-Picture-clause-given_up g c =
    let at = output_state g.W.Out.taken g.E.Out.taken in
    rw c.in-Picture.is (subst (λ limits. IfErr c.show_picture.result (IsGivenUp (HasNotTraced c.args.source.now limits c.args.schedule.now) (IsDrawnInPart c.args.source.now limits c.args.schedule.now c.in-Picture.part c.in-Picture.explain) (at c.args.outputs.now) (at c.show_picture.new.outputs))) c.limits_for-in-Picture.ensures c.show_picture.ensures.given_up)

pub returns-in-Explore-clause-done : goal.returns-in-Explore-clause-done
returns-in-Explore-clause-done g c =
    let at = output_state g.W.Out.taken g.E.Out.taken in
    rw c.in-Explore.is (subst (λ asked. IfOk c.show_exploration.result (HasExplored c.args.source.now c.in-Explore.limits c.in-Explore.extent asked c.in-Explore.explain (at c.args.outputs.now) (at c.show_exploration.new.outputs))) c.is_some.ensures c.show_exploration.ensures.done)

pub returns-in-Explore-clause-given_up : goal.returns-in-Explore-clause-given_up
returns-in-Explore-clause-given_up g c = rw c.in-Explore.is c.show_exploration.ensures.given_up

pub returns-in-Flip-clause-done : goal.returns-in-Flip-clause-done
returns-in-Flip-clause-done g c = rw c.in-Flip.is c.run_flip.ensures.done

pub returns-in-Flip-clause-given_up : goal.returns-in-Flip-clause-given_up
returns-in-Flip-clause-given_up g c = rw c.in-Flip.is c.run_flip.ensures.given_up

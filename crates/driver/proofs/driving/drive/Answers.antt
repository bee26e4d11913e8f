use Rattle.driver.proofs.Names.{output_state}
use Rattle.driver.proofs.WorkerLemmas.{nothing_kept}
use Rattle.driver.proofs.driving.drive.Goals as goal

pub returns-in-Ok-clause-kept : goal.returns-in-Ok-clause-kept
returns-in-Ok-clause-kept g c none =
    let at = output_state g.W.Out.taken g.E.Out.taken in
    nothing_kept c.args.order.now c.args.source.now c.args.schedule.now (at c.args.outputs.now) (at c.carry_out.new.outputs) c.in-Ok.status c.in-Ok.ensures.reported none

pub returns-in-Err-clause-kept : goal.returns-in-Err-clause-kept
returns-in-Err-clause-kept g c none = c.in-Err.ensures.cut.given_up.same

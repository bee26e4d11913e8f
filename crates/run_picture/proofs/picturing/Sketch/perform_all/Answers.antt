use Rattle.std.proofs.Common.{◌≤◌, ◌∙◌, ap, length, inr, rules, subst, sym, take}
use Rattle.cil_model.specs.declared.events.Event.TheVariants.{Gc}
use Rattle.cil_model.specs.declared.trees.Tree.{Tree}
use Rattle.schedule_text.specs.Items.{events_of}
use Rattle.schedule_text.proofs.SoFar.{so_far_whole}
use Rattle.event_trace.proofs.interleaving_core.Threads.RefusedMemory.{on_err}
use Rattle.event_trace.specs.MethodPositions.{ArePositionsOf}
use Rattle.run_picture.specs.Pictures.{AreSketched}
use Rattle.run_picture.proofs.PictureLaws.{item_cut, number_item, number_none, number_time, same_so_far, sketch_begun}
use Rattle.run_picture.proofs.PictureLaws.{sketched_item, sketched_none, sketched_time}
use Rattle.run_picture.proofs.picturing.Sketch.perform_all.Goals as goal

pub loop-item-init : goal.loop-item-init
loop-item-init c = record {
  sketched = sketch_begun c.args.machine.now c.args.self.now.window c.args.self.now.rows.rows.items c.requires.empty c.args.self.now.rows.all;
  number = search rules;
  positions = c.requires.positions;
  window = search rules;
}

pub loop-time-init : goal.loop-time-init
loop-time-init c =
    let items = c.args.items.now in
    let i = c.loop-item.item-index in
    let before = c.loop-item.invariant in
    record {
      sketched = sketched_none c.args.machine.now c.loop-item.machine items i c.args.self.now.window c.loop-item.self.rows.rows.items Gc before.sketched;
      number = number_none items i c.loop-item.number Gc before.number;
      positions = before.positions;
      window = before.window;
    }

pub loop-time-preserved : goal.loop-time-preserved
loop-time-preserved c =
    let items = c.args.items.now in
    let i = c.loop-item.item-index in
    let before = c.loop-time.invariant in
    let done = c.in_ok-perform.ensures in
    record {
      sketched = sketched_time c.args.machine.now c.loop-time.machine items i c.args.self.now.window c.loop-time.self.rows.rows.items _ c.loop-time._time c.loop-time.number done.done.0
          c.perform.new.machine c.perform.new.self.rows.rows.items c.loop-time.self.window before.window before.number before.sketched done.done.1 done.done.2;
      number = number_time items i c.loop-time.number _ c.loop-time._time c.in_ok-number.number c.in_ok-number.ensures.next before.number;
      positions = subst (λ (t : Tree). ArePositionsOf t c.args.methods.now) (sym done.same.0) before.positions;
      window = done.window ∙ before.window;
    }

pub loop-item-preserved : goal.loop-item-preserved
loop-item-preserved c =
    let items = c.args.items.now in
    let i = c.loop-item.item-index in
    let before = c.loop-time.invariant in
    record {
      sketched = sketched_item c.args.machine.now c.loop-time.machine items i c.args.self.now.window c.loop-time.self.rows.rows.items _ c.loop-time._time c.loop-item-test.true
          c.loop-time-test.false c.loop-time.auto._time-end before.sketched;
      number = number_item items i c.loop-time.number _ c.loop-time._time c.loop-item-test.true c.loop-time-test.false c.loop-time.auto._time-end before.number;
      positions = before.positions;
      window = before.window;
    }

pub returns-clause-sketched : goal.returns-clause-sketched
returns-clause-sketched c =
    let past : length c.args.items.now ≤ c.loop-item.item-index = c.loop-item-test.false in
    subst (λ es. AreSketched c.args.machine.now es c.loop-item.machine c.args.self.now.window c.loop-item.self.rows.rows.items) (so_far_whole c.args.items.now c.loop-item.item-index past) c.loop-item.invariant.sketched

pub returns-clause-number : goal.returns-clause-number
returns-clause-number c =
    let past : length c.args.items.now ≤ c.loop-item.item-index = c.loop-item-test.false in
    c.loop-item.invariant.number ∙ ap length (so_far_whole c.args.items.now c.loop-item.item-index past)

pub returns-clause-same : goal.returns-clause-same
returns-clause-same c =
    same_so_far c.args.machine.now c.loop-item.machine (events_of (take c.loop-item.item-index c.args.items.now)) c.args.self.now.window c.loop-item.self.rows.rows.items c.loop-item.invariant.sketched

pub returns-in_err-perform-clause-same : goal.returns-in_err-perform-clause-same
returns-in_err-perform-clause-same c =
    let before = same_so_far c.args.machine.now c.loop-time.machine _ c.args.self.now.window c.loop-time.self.rows.rows.items c.loop-time.invariant.sketched in
    let same = c.in_err-perform.ensures.same in (same.0 ∙ before.0, same.1 ∙ before.1)

pub returns-in_err-perform-clause-stopped : goal.returns-in_err-perform-clause-stopped
returns-in_err-perform-clause-stopped c =
    on_err c.from_residual.result
    (λ window out.
    item_cut c.args.machine.now c.loop-time.machine c.args.items.now c.loop-item.item-index c.args.self.now.window c.loop-time.self.rows.rows.items _ c.loop-time._time c.perform.new.machine window out
    c.loop-item-test.true c.loop-time-test.true c.loop-time.invariant.sketched c.in_err-perform.ensures.stopped)

pub returns-in_err-number-clause-same : goal.returns-in_err-number-clause-same
returns-in_err-number-clause-same c =
    let before = same_so_far c.args.machine.now c.loop-time.machine _ c.args.self.now.window c.loop-time.self.rows.rows.items c.loop-time.invariant.sketched in
    let same = c.in_ok-perform.ensures.same in (same.0 ∙ before.0, same.1 ∙ before.1)

pub returns-in_err-number-clause-stopped : goal.returns-in_err-number-clause-stopped
returns-in_err-number-clause-stopped c =
    let done = c.in_ok-perform.ensures.done in
    on_err c.from_residual-in_err-number.result
    (λ window out.
    item_cut c.args.machine.now c.loop-time.machine c.args.items.now c.loop-item.item-index c.args.self.now.window c.loop-time.self.rows.rows.items _ c.loop-time._time c.perform.new.machine window out
    c.loop-item-test.true c.loop-time-test.true c.loop-time.invariant.sketched (inr (done.0, done.1)))

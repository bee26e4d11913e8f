use Rattle.std.proofs.Common.{◌≤◌, ◌+◌, ◌++◌, ◌∷◌, ◌∙◌, [], ap, length, subst, sym, take}
use Rattle.event_trace.proofs.Names.{Appends, Gc, Tree, events_of, so_far_whole, on_err, AppendsBeginning, ArePositionsOf}
use Rattle.event_trace.proofs.TraceLaws.{TracedSoFar, all_traced, end_cut, item_cut, nothing_traced, number_cut, number_item, number_none, number_time, same_so_far}
use Rattle.event_trace.proofs.TraceLaws.{traced_item, traced_none, traced_time}
use Rattle.event_trace.proofs.tracing.trace.Goals as goal

pub loop-time-init : goal.loop-time-init
loop-time-init g c =
    let items = c.args.items.now in
    let i = c.loop-item.item-index in
    let before = c.loop-item.invariant in
    record {
      traced = traced_none c.args.machine.now c.loop-item.machine items i c.loop-item.pending.items (g.W.Out.taken c.args.out.now).contents (g.W.Out.taken c.loop-item.out).contents Gc before.traced;
      number = number_none items i c.loop-item.number Gc before.number;
      positions = before.positions;
      kept = before.kept;
    }

pub loop-time-preserved : goal.loop-time-preserved
loop-time-preserved g c =
    let items = c.args.items.now in
    let i = c.loop-item.item-index in
    let before = c.loop-time.invariant in
    let done = c.in_ok-trace_event.ensures in
    record {
      traced = traced_time c.args.machine.now c.loop-time.machine items i c.loop-time.pending.items (g.W.Out.taken c.args.out.now).contents (g.W.Out.taken c.loop-time.out).contents _ c.loop-time._time _ done.traced.0
          c.trace_event.new.machine c.trace_event.new.pending.items (g.W.Out.taken c.trace_event.new.out).contents (c.in_ok-number.ensures.next ∙ ap (λ n. n + 1) before.number) before.traced done.traced.1 done.traced.2;
      number = number_time items i c.loop-time.number _ c.loop-time._time c.in_ok-number.number c.in_ok-number.ensures.next before.number;
      positions = subst (λ (t : Tree). ArePositionsOf t c.in_ok-methods.methods) (sym done.same.0) before.positions;
      kept = done.kept ∙ before.kept;
    }

pub loop-item-preserved : goal.loop-item-preserved
loop-item-preserved g c =
    let items = c.args.items.now in
    let i = c.loop-item.item-index in
    let before = c.loop-time.invariant in
    record {
      traced = traced_item c.args.machine.now c.loop-time.machine items i c.loop-time.pending.items (g.W.Out.taken c.args.out.now).contents (g.W.Out.taken c.loop-time.out).contents _ c.loop-time._time c.loop-item-test.true
          c.loop-time-test.false c.loop-time.auto._time-end before.traced;
      number = number_item items i c.loop-time.number _ c.loop-time._time c.loop-item-test.true c.loop-time-test.false c.loop-time.auto._time-end before.number;
      positions = before.positions;
      kept = before.kept;
    }

pub returns-clause-traced : goal.returns-clause-traced
returns-clause-traced g c =
    let past : length c.args.items.now ≤ c.loop-item.item-index = c.loop-item-test.false in
    let begun = (g.W.Out.taken c.args.out.now).contents in
    let so_far = (g.W.Out.taken c.loop-item.out).contents in
    let new = (g.W.Out.taken c.write_end.new.out).contents in
    all_traced c.args.machine.now c.loop-item.machine (events_of c.args.items.now) c.loop-item.pending.items begun so_far new
    (subst (λ es. TracedSoFar c.args.machine.now es c.loop-item.machine c.loop-item.pending.items begun so_far) (so_far_whole c.args.items.now c.loop-item.item-index past) c.loop-item.invariant.traced)
    (subst (λ bytes. Appends so_far new (bytes ++ 10 ∷ [])) c.as_slice.ensures.value c.in_ok-write_end.ensures.whole.0)

pub returns-clause-same : goal.returns-clause-same
returns-clause-same g c =
    same_so_far c.args.machine.now c.loop-item.machine (events_of (take c.loop-item.item-index c.args.items.now)) c.loop-item.pending.items (g.W.Out.taken c.args.out.now).contents (g.W.Out.taken c.loop-item.out).contents c.loop-item.invariant.traced

pub returns-in_err-write_end-clause-same : goal.returns-in_err-write_end-clause-same
returns-in_err-write_end-clause-same g c =
    same_so_far c.args.machine.now c.loop-item.machine (events_of (take c.loop-item.item-index c.args.items.now)) c.loop-item.pending.items (g.W.Out.taken c.args.out.now).contents (g.W.Out.taken c.loop-item.out).contents c.loop-item.invariant.traced

pub returns-in_err-write_end-clause-stopped : goal.returns-in_err-write_end-clause-stopped
returns-in_err-write_end-clause-stopped g c =
    let past : length c.args.items.now ≤ c.loop-item.item-index = c.loop-item-test.false in
    let begun = (g.W.Out.taken c.args.out.now).contents in
    let so_far = (g.W.Out.taken c.loop-item.out).contents in
    let new = (g.W.Out.taken c.write_end.new.out).contents in
    on_err c.from_residual-in_err-write_end.result
    (end_cut c.args.machine.now c.loop-item.machine (events_of c.args.items.now) c.loop-item.pending.items begun so_far new
    (subst (λ es. TracedSoFar c.args.machine.now es c.loop-item.machine c.loop-item.pending.items begun so_far) (so_far_whole c.args.items.now c.loop-item.item-index past) c.loop-item.invariant.traced)
    (subst (λ bytes. AppendsBeginning so_far new (bytes ++ 10 ∷ [])) c.as_slice.ensures.value c.in_err-write_end.ensures.cut.0))

pub returns-in_err-trace_event-clause-same : goal.returns-in_err-trace_event-clause-same
returns-in_err-trace_event-clause-same g c =
    let before = same_so_far c.args.machine.now c.loop-time.machine _ c.loop-time.pending.items (g.W.Out.taken c.args.out.now).contents (g.W.Out.taken c.loop-time.out).contents c.loop-time.invariant.traced in
    let same = c.in_err-trace_event.ensures.same in (same.0 ∙ before.0, same.1 ∙ before.1)

pub returns-in_err-trace_event-clause-stopped : goal.returns-in_err-trace_event-clause-stopped
returns-in_err-trace_event-clause-stopped g c =
    on_err c.from_residual-in_err-trace_event.result
    (item_cut c.args.machine.now c.loop-time.machine c.args.items.now c.loop-item.item-index c.loop-time.pending.items (g.W.Out.taken c.args.out.now).contents (g.W.Out.taken c.loop-time.out).contents _ c.loop-time._time _
    c.trace_event.new.machine (g.W.Out.taken c.trace_event.new.out).contents c.loop-item-test.true c.loop-time-test.true (c.in_ok-number.ensures.next ∙ ap (λ n. n + 1) c.loop-time.invariant.number) c.loop-time.invariant.traced
    c.in_err-trace_event.ensures.stopped)

pub returns-in_err-number-clause-same : goal.returns-in_err-number-clause-same
returns-in_err-number-clause-same g c =
    same_so_far c.args.machine.now c.loop-time.machine _ c.loop-time.pending.items (g.W.Out.taken c.args.out.now).contents (g.W.Out.taken c.loop-time.out).contents c.loop-time.invariant.traced

pub returns-in_err-number-clause-stopped : goal.returns-in_err-number-clause-stopped
returns-in_err-number-clause-stopped g c =
    on_err c.from_residual-in_err-number.result
    (number_cut c.args.machine.now c.loop-time.machine c.args.items.now c.loop-item.item-index c.loop-time.pending.items (g.W.Out.taken c.args.out.now).contents (g.W.Out.taken c.loop-time.out).contents _ c.loop-time._time
    c.loop-item-test.true c.loop-time-test.true c.loop-time.invariant.traced)

pub returns-in_err-methods-clause-stopped : goal.returns-in_err-methods-clause-stopped
returns-in_err-methods-clause-stopped g c = on_err c.from_residual.result (nothing_traced c.args.machine.now (events_of c.args.items.now) (g.W.Out.taken c.args.out.now).contents)

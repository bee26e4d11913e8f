use Rattle.std.proofs.Common.{◌≡◌, ◌≤◌, ◌<◌, List, length, inl, inr, refl, subst, sym, ap, ◌∙◌}
use Rattle.schedule_text.specs.Items.{events_of}
use Rattle.driver.proofs.Names.{Event, event_count, Fails, Takes, IsPicture, IsPictureInPart, MOST_EVENTS, MOST_SCHEDULED, IsOfWriting, handed_on, if_ok, HasNotTraced, IsPictureCut, output_state, too_many_text, window_of}
use Rattle.driver.proofs.OutcomeLemmas.{all_of_err, by_either, no_refusal, nothing_written, write_failed}
use Rattle.driver.proofs.Refusals.{not_run_by}
use Rattle.driver.proofs.PictureLemmas.{drawn_in_part, has_drawn}
use Rattle.driver.proofs.drawing.show_picture.Goals as goal

pub returns-in_err-machine-clause-given_up : goal.returns-in_err-machine-clause-given_up
returns-in_err-machine-clause-given_up g c =
    let at = output_state g.W.Out.taken g.E.Out.taken in
    handed_on c.from_residual.result c.from_residual.ensures.1 (λ failure same.
    nothing_written (at c.args.outputs.now) (at c.args.outputs.now) failure (subst (HasNotTraced c.args.source.now c.args.limits c.args.text.now) (sym same) (inl c.in_err-machine.ensures.refused))
    (λ device. not_run_by c.args.source.now c.args.limits c.args.text.now _ c.in_err-machine.ensures.refused (sym same ∙ device)) (refl, refl) refl)

pub event_count-events-requires : goal.event_count-events-requires
event_count-events-requires g c =
    record { few = subst (λ items. length (events_of items) ≤ MOST_SCHEDULED) (sym c.as_slice.ensures.value) c.in_ok-machine.ensures.opened.are_read.4 }

-- too many events
pub returns-then-count-gt-MOST_EVENTS-clause-done : goal.returns-then-count-gt-MOST_EVENTS-clause-done
returns-then-count-gt-MOST_EVENTS-clause-done g c =
    let events : List Event = events_of c.in_ok-machine.items.items in
    let number : c.event_count-events.result ≡ length events = c.event_count-events.ensures ∙ ap (λ items. length (events_of items)) c.as_slice.ensures.value in
    let count : c.event_count-count.result ≡ event_count c.args.part (length events) = c.event_count-count.ensures.count ∙ ap (event_count c.args.part) number in
    if_ok c.report_too_many.result c.report_too_many.ensures.whole (λ status reported. inr (record {
      events = events;
      initial = c.in_ok-machine.machine;
      ready = c.in_ok-machine.ensures.opened;
      many = subst (λ n. MOST_EVENTS < n) count c.if-count-gt-MOST_EVENTS.true;
      untouched = refl;
      reported = subst (λ n. Takes (g.E.Out.taken c.args.outputs.now.err) (g.E.Out.taken c.report_too_many.new.err) (too_many_text n)) count reported.1;
      status_is = reported.0;
      same = refl;
    }))

pub returns-then-count-gt-MOST_EVENTS-clause-given_up : goal.returns-then-count-gt-MOST_EVENTS-clause-given_up
returns-then-count-gt-MOST_EVENTS-clause-given_up g c =
    let at = output_state g.W.Out.taken g.E.Out.taken in
    let events : List Event = events_of c.in_ok-machine.items.items in
    let number : c.event_count-events.result ≡ length events = c.event_count-events.ensures ∙ ap (λ items. length (events_of items)) c.as_slice.ensures.value in
    let count : c.event_count-count.result ≡ event_count c.args.part (length events) = c.event_count-count.ensures.count ∙ ap (event_count c.args.part) number in
    let ready = c.in_ok-machine.ensures.opened in
    let o = at c.args.outputs.now in
    let err = g.E.Out.taken c.report_too_many.new.err in
    all_of_err c.report_too_many.result c.report_too_many.ensures.failed c.report_too_many.ensures.cut c.report_too_many.ensures.device (λ failure writing cut broken. record {
      reason = inr ((ready.tree, ready.is_accepted), writing);
      untouched = λ refused. absurd (no_refusal failure writing refused);
      device = λ device. inr (broken device);
      in_part = by_either cut (λ same. (refl, same)) (λ begun. inr (inr record {
        events = events;
        initial = c.in_ok-machine.machine;
        ready = ready;
        many = subst (λ n. MOST_EVENTS < n) count c.if-count-gt-MOST_EVENTS.true;
        cut = subst (λ n. Fails o.err err (too_many_text n)) count begun;
        silent = refl;
      }));
      same = refl;
    })

-- a picture that is not drawn
pub returns-in_err-draw-clause-given_up : goal.returns-in_err-draw-clause-given_up
returns-in_err-draw-clause-given_up g c =
    let at = output_state g.W.Out.taken g.E.Out.taken in
    let events : List Event = events_of c.in_ok-machine.items.items in
    let number : c.event_count-events.result ≡ length events = c.event_count-events.ensures ∙ ap (λ items. length (events_of items)) c.as_slice.ensures.value in
    let count : c.event_count-count.result ≡ event_count c.args.part (length events) = c.event_count-count.ensures.count ∙ ap (event_count c.args.part) number in
    let few : event_count c.args.part (length events) ≤ MOST_EVENTS = subst (λ n. n ≤ MOST_EVENTS) count c.if-count-gt-MOST_EVENTS.false in
    let window : c.window_of-window.result ≡ window_of c.args.part (length events) = c.window_of-window.ensures ∙ ap (window_of c.args.part) number in
    let machine = c.in_ok-machine.machine in
    let ready = c.in_ok-machine.ensures.opened in
    let after = c.draw.new.machine in
    let o = at c.args.outputs.now in
    let between = g.W.Out.taken c.draw.new.out in
    let stopped = subst (λ items. IsPictureInPart machine (events_of items) after c.window_of-window.result o.out.contents between.contents) c.as_slice-2.ensures.value c.in_err-draw.ensures.stopped in
    let cut : IsPictureCut c.args.source.now c.args.limits c.args.text.now c.args.part o (record o { out = between }) = record {
      events = events;
      initial = machine;
      ready = ready;
      few = few;
      after = after;
      pictured = subst (λ w. IsPictureInPart machine events after w o.out.contents between.contents) window stopped;
      silent = refl;
    } in
    handed_on c.from_residual-in_err-draw.result c.from_residual-in_err-draw.ensures.1 (λ failure same.
    let writing = subst IsOfWriting (sym same) c.in_err-draw.ensures.failed in
    record {
      reason = inr ((ready.tree, ready.is_accepted), writing);
      untouched = λ refused. absurd (no_refusal failure writing refused);
      device = λ device. inl (c.in_err-draw.ensures.device (sym same ∙ device));
      in_part = inr (inl cut);
      same = refl;
    })

-- a picture that is drawn
pub returns-clause-done : goal.returns-clause-done
returns-clause-done g c =
    let at = output_state g.W.Out.taken g.E.Out.taken in
    let events : List Event = events_of c.in_ok-machine.items.items in
    let number : c.event_count-events.result ≡ length events = c.event_count-events.ensures ∙ ap (λ items. length (events_of items)) c.as_slice.ensures.value in
    let count : c.event_count-count.result ≡ event_count c.args.part (length events) = c.event_count-count.ensures.count ∙ ap (event_count c.args.part) number in
    let few : event_count c.args.part (length events) ≤ MOST_EVENTS = subst (λ n. n ≤ MOST_EVENTS) count c.if-count-gt-MOST_EVENTS.false in
    let window : c.window_of-window.result ≡ window_of c.args.part (length events) = c.window_of-window.ensures ∙ ap (window_of c.args.part) number in
    let machine = c.in_ok-machine.machine in
    let ready = c.in_ok-machine.ensures.opened in
    let after = c.draw.new.machine in
    let o = at c.args.outputs.now in
    let between = g.W.Out.taken c.draw.new.out in
    let drawn = c.in_ok-draw.ensures.pictured in
    let pictured = subst (λ w. IsPicture machine events after drawn.0 w o.out.contents between.contents) window
    (subst (λ items. IsPicture machine (events_of items) after drawn.0 c.window_of-window.result o.out.contents between.contents) c.as_slice-2.ensures.value drawn.1) in
    let o' = record o { out = between; err = g.E.Out.taken c.show_threads_of.new.err } in
    inl (has_drawn c.args.source.now c.args.limits c.args.text.now c.args.part c.args.explain events machine after drawn.0 o o' ready few pictured refl _ c.in_ok-show_threads_of.ensures.whole)

pub returns-in_err-show_threads_of-clause-given_up : goal.returns-in_err-show_threads_of-clause-given_up
returns-in_err-show_threads_of-clause-given_up g c =
    let at = output_state g.W.Out.taken g.E.Out.taken in
    let events : List Event = events_of c.in_ok-machine.items.items in
    let number : c.event_count-events.result ≡ length events = c.event_count-events.ensures ∙ ap (λ items. length (events_of items)) c.as_slice.ensures.value in
    let count : c.event_count-count.result ≡ event_count c.args.part (length events) = c.event_count-count.ensures.count ∙ ap (event_count c.args.part) number in
    let few : event_count c.args.part (length events) ≤ MOST_EVENTS = subst (λ n. n ≤ MOST_EVENTS) count c.if-count-gt-MOST_EVENTS.false in
    let window : c.window_of-window.result ≡ window_of c.args.part (length events) = c.window_of-window.ensures ∙ ap (window_of c.args.part) number in
    let machine = c.in_ok-machine.machine in
    let ready = c.in_ok-machine.ensures.opened in
    let after = c.draw.new.machine in
    let o = at c.args.outputs.now in
    let between = g.W.Out.taken c.draw.new.out in
    let drawn = c.in_ok-draw.ensures.pictured in
    let pictured = subst (λ w. IsPicture machine events after drawn.0 w o.out.contents between.contents) window
    (subst (λ items. IsPicture machine (events_of items) after drawn.0 c.window_of-window.result o.out.contents between.contents) c.as_slice-2.ensures.value drawn.1) in
    let o' = record o { out = between; err = g.E.Out.taken c.show_threads_of.new.err } in
    let cut = c.in_err-show_threads_of.ensures.cut in
    handed_on c.from_residual-in_err-show_threads_of.result c.from_residual-in_err-show_threads_of.ensures.1 (λ failure is.
    write_failed o o' failure (inr ((ready.tree, ready.is_accepted), inr is)) (inr is) (inr cut.2.1)
    (inr (inl (drawn_in_part c.args.source.now c.args.limits c.args.text.now c.args.part c.args.explain events machine after drawn.0 o o' ready few pictured refl cut))) refl)

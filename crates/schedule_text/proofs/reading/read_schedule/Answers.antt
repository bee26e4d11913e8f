use Rattle.std.proofs.Common.{◌==◌, not, ◌∷◌, [], length, map, rules, tests, sym, subst}
use Rattle.std.proofs.lemmas.List.{map-append}
use Rattle.std.proofs.lemmas.Iterator.Consumers.{YieldsList-at, YieldsList-from_filter}
use Rattle.std.proofs.lemmas.Iterator.Splits.{YieldsList-from_slice_split}
use Rattle.schedule_text.specs.Items.{events_of, is_separator, words}
use Rattle.schedule_text.specs.Readings.{AreRead, IsFaulty, IsFirstFault}
use Rattle.schedule_text.proofs.ReadingLemmas.{all_taken, read_more, refused, stops_at, taken_at}
use Rattle.schedule_text.proofs.reading.read_schedule.Goals as goal

pub loop-word-preserved : goal.loop-word-preserved
loop-word-preserved c =
    let added = c.in_ok-events.ensures.ok in
    record {
      read = subst (λ words. AreRead words (events_of c.append_word.new.items.items)) (sym (map-append (λ word. word.now) c.loop-word.yielded (c.in-Some.word ∷ [])))
          (read_more (map (λ word. word.now) c.loop-word.yielded) (events_of c.loop-word.items.items) (events_of c.append_word.new.items.items) c.in-Some.word.now added.0 c.loop-word.invariant.read added.1 added.2);
      many = c.in_ok-events.ensures.many.0;
      few = c.in_ok-events.ensures.many.1;
    }

pub returns-in_err-events : goal.returns-in_err-events
returns-in_err-events c =
    let at = taken_at (λ word. word.now) c.loop-word.yielded c.in-Some.word _ _ c.loop-word.yielded_by c.next.ensures.steps c.in-Some.is (YieldsList-at c.into_iter-word-iterator.ensures.into_iter_gives (YieldsList-from_filter _ (λ word. not (length word == 0)) (YieldsList-at c.filter-word-items.ensures.source (YieldsList-from_slice_split _ is_separator c.args.text.now c.split.ensures.rest c.split.ensures.done c.split.ensures.closure (λ x b q k. search (rules, tests)))) c.filter-word-items.ensures.closure (λ x b q k. search (rules, tests)))) in
    let fault : IsFaulty (length (events_of c.loop-word.items.items)) c.in-Some.word.now c.in_err-events.field-0.0 =
    subst (λ n. IsFaulty n c.in-Some.word.now c.in_err-events.field-0.0) c.loop-word.invariant.many c.in_err-events.ensures.err in
    refused _ c.from_residual.result c.from_residual.ensures.1 (λ error same.
    subst (IsFirstFault (words c.args.text.now)) (sym same) (stops_at (words c.args.text.now) (map (λ word. word.now) c.loop-word.yielded) (length c.loop-word.yielded) c.in-Some.word.now (events_of c.loop-word.items.items) _ at.0 at.1 at.2 c.loop-word.invariant.read fault))

pub returns : goal.returns
returns c =
    let all = all_taken (λ word. word.now) c.loop-word.yielded _ _ c.loop-word.yielded_by c.next.ensures.steps c.in-None.is (YieldsList-at c.into_iter-word-iterator.ensures.into_iter_gives (YieldsList-from_filter _ (λ word. not (length word == 0)) (YieldsList-at c.filter-word-items.ensures.source (YieldsList-from_slice_split _ is_separator c.args.text.now c.split.ensures.rest c.split.ensures.done c.split.ensures.closure (λ x b q k. search (rules, tests)))) c.filter-word-items.ensures.closure (λ x b q k. search (rules, tests)))) in
    subst (λ words. AreRead words (events_of c.loop-word.items.items)) all c.loop-word.invariant.read

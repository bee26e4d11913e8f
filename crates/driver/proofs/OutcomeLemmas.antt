-- What a run that is shown, whole or in part, shows of its source.
use Rattle.std.proofs.Common.{◌≡◌, ◌⊎◌, ◌++◌, ℕ, Bool, true, false, List, [], map, None, Option, Result, Ok, Err, refl, ap, ap₂, sym, ◌∙◌, subst, inl, inr, append-nil}
use Rattle.std.specs.Prelude.{IfErr, IfSome, OnErr}
use Rattle.run_files.specs.declared.differences.Differences.{Differences}
use Rattle.driver.proofs.Names.{zip, ends_refine, printed_refines, MachineState, RefinesAfter, Represents, end_of, State, Event, Limits, Report, IsOfWriting, is_refusal, Failure, Memory, Device, IsTraced, IsPrintedUpTo, IsReady, IsRunBy, HasFailedWrite, IsGivenUp, IsUntouched, OutputState, AreCut, AreEndsExplainedFor, AreNotesShownInPart, AreThreadsExplained, HasRunSource, HasTraced, IsEndText, IsExplanation, IsMachineShown, IsMachineShownInPart, IsRun, IsRunInPart, IsRunShown, IsRunShownInPart, IsRunText, IsShown, IsThreadText, IsTracedAndRunInPart, status_after, stop_text, differences_from, differences_text, status_if_same, IsMostOfRun, stats_text, RunFile, ends_of, lines_from, status_of, Fails, HasGrown, StreamState, Takes, fails_first, fails_second, takes_both, results_in, has_done, HasDone}

pub for_err : {T E : Type 0} {P : Type 0} (r : Result T E) → P → IfErr r (λ _. P)
for_err (Ok x) p = tt
for_err (Err e) p = p

-- what follows of an error from three facts about it
pub all_of_err : {T E : Type 0} {P Q R : E → Type 0} {S : Type 0} (r : Result T E) → IfErr r P → OnErr r S → IfErr r Q → ((e : E) → P e → S → Q e → R e) → IfErr r R
all_of_err (Ok x) p s q f = tt
all_of_err (Err e) p s q f = f e p s q

-- either of two, each by its own way
pub by_either : {A B C D : Type 0} → A ⊎ B → (A → C) → (B → D) → C ⊎ D
by_either (inl a) f g = inl (f a)
by_either (inr b) f g = inr (g b)

-- nothing explains a failure, whether that is asked for or not
pub no_explanation : (asked : Bool) → IsExplanation asked []
no_explanation true = tt
no_explanation false = refl

-- nothing explains the states of threads, as where memory runs out
pub no_thread_text : (explain : Bool) (c : MachineState) → IsThreadText explain c []
no_thread_text true c = inl refl
no_thread_text false c = refl

-- nothing explains how threads ended, as where memory runs out
pub no_end_text : (explain : Bool) (source : List ℕ) (limits : Limits) (events : List (Event × Report)) → IsEndText explain source limits events []
no_end_text true source limits events = inl refl
no_end_text false source limits events = refl

-- what explains how live threads stand, and nothing of those that ended
pub live_text : (explain ended : Bool) (source : List ℕ) (limits : Limits) (events : List (Event × Report)) (c : MachineState) (text : List ℕ) → IsThreadText explain c text
    → IsRunText explain ended source limits events c text
live_text explain ended source limits events c text explains = (text, [], explains, no_end_text ended source limits events, sym (append-nil text))

-- what a machine shows is what the state shows that it represents
shown_of : (c : MachineState) (state : State) (more : List ℕ) (o o' : OutputState) (status : ℕ) → Represents c state → IsShown c.printed (map end_of c.threads) more o o' status
    → IsShown state.printed (ends_of state) more o o' status
shown_of c state more o o' status represents shown =
    subst (λ p. IsShown p (ends_of state) more o o' status) (printed_refines c state represents)
    (subst (λ es. IsShown c.printed es more o o' status) (ends_refine c state represents) shown)

-- ---- what is cut

-- a prefix of more is cut where one of the second text is
pub cut_more : (first second more : List ℕ) (o o' : OutputState) → AreCut first second o o' → AreCut first (second ++ more) o o'
cut_more first second more o o' (inl cut) = inl cut
cut_more first second more o o' (inr cut) = inr (cut.0, fails_first o.err o'.err second more cut.1)

-- both texts are written, and a write of more failed
pub cut_after : (first second more : List ℕ) (o m : OutputState) (err' : StreamState) → Takes o.out m.out first → Takes o.err m.err second → Fails m.err err' more
    → AreCut first (second ++ more) o (record m { err = err' })
cut_after first second more o m err' taken shown cut = inr (taken, fails_second o.err m.err err' second more shown cut)

-- where texts are cut, a write failed
pub cut_breaks : (first second : List ℕ) (o o' : OutputState) → AreCut first second o o' → HasFailedWrite o o'
cut_breaks first second o o' (inl cut) = inl cut.0.1
cut_breaks first second o o' (inr cut) = inr cut.1.1

-- a write failed after one output had taken something
pub breaks_later : (o : OutputState) (between : StreamState) (o' : OutputState) → between.failures ≡ o.out.failures → HasFailedWrite (record o { out = between }) o' → HasFailedWrite o o'
breaks_later o between o' same (inl grown) = inl (subst (λ n. HasGrown n o'.out.failures) same grown)
breaks_later o between o' same (inr grown) = inr grown

-- where a write of the notes failed, a call of that output failed
pub notes_break : (explain : Bool) (err err' : StreamState) → AreNotesShownInPart explain err err' → HasGrown err.failures err'.failures
notes_break true err err' (notes, cut) = cut.1
notes_break false err err' none = absurd none

-- ---- what a run shows

-- a run of which nothing is expected differs in nothing
abbrev no_differences : Differences
no_differences = record { source = false; limits = false; output = false }

-- a machine that was run shows a run
run_of : (source : List ℕ) (limits : Limits) (text : List ℕ) (most : Option ℕ) (expected : Option RunFile) (explain stats ended stopped : Bool) (done : List Event) (reports : List Report) (c : MachineState) (more : List ℕ) (most_words : Option ℕ)
    (d : Differences) → d ≡ differences_from expected source limits c.printed
    → (by : IsRunBy source limits text done reports stopped c) → IsPrintedUpTo most c.printed → IsRunText explain ended source limits (zip done reports) c more
    → IfSome most_words (IsMostOfRun source limits (zip done reports))
    → IsRun source limits text most expected explain stats ended stopped by.ran.2.refines.state
    ((lines_from 0 (map end_of c.threads) ++ more) ++ (stop_text stopped ++ differences_text d ++ stats_text stats done reports c most_words))
run_of source limits text most expected explain stats ended stopped done reports c more most_words d differs by within explains is_most =
    let after : RefinesAfter by.ran.0 limits done reports c = by.ran.2.refines in
    let found = differs ∙ ap (differences_from expected source limits) (printed_refines c after.state after.represents) in
    record {
      events = by.events;
      are_read = by.are_read;
      done = done;
      are_done = by.are_done;
      reports = reports;
      results_in = results_in source by.ran.0 limits done reports c by.ran.1 by.ran.2;
      within = subst (IsPrintedUpTo most) (printed_refines c after.state after.represents) within;
      after = c;
      represents = after.represents;
      explanation = more;
      explains = explains;
      most_words = most_words;
      is_most = is_most;
      reports_all = ap₂ (λ es d. lines_from 0 es ++ more ++ (stop_text stopped ++ differences_text d ++ stats_text stats done reports c most_words))
          (ends_refine c after.state after.represents) found;
    }

module _ (source : List ℕ) (limits : Limits) (text : List ℕ) (most : Option ℕ) (expected : Option RunFile) (explain stats stopped : Bool) (done : List Event) (reports : List Report) (c : MachineState) (by : IsRunBy source limits text done reports stopped c)
    (within : IsPrintedUpTo most c.printed)
    (d : Differences) (differs : d ≡ differences_from expected source limits c.printed) (most_words : Option ℕ) (is_most : IfSome most_words (IsMostOfRun source limits (zip done reports))) where
  abbrev state : State
  state = by.ran.2.refines.state

  printed : c.printed ≡ state.printed
  printed = printed_refines c state by.ran.2.refines.represents

  -- what comes last: that it was stopped, in what it differs, and its numbers
  abbrev last : List ℕ
  last = stop_text stopped ++ differences_text d ++ stats_text stats done reports c most_words

  -- all that it shows is written
  pub has_run : (o m : OutputState) (err' : StreamState) (before status : ℕ) → IsRunShown explain source limits done reports c o m before → m.texts ≡ o.texts
      → (status ≡ status_after stopped (status_if_same d before)) × Takes m.err err' last → HasRunSource source limits text most expected explain stats o (record m { err = err' }) status
  has_run o m err' before status (more, explains, shown) same (after, stop) =
      let lines = lines_from 0 (map end_of c.threads) ++ more in
      record {
        stopped = stopped;
        state = state;
        reported = lines ++ last;
        is_run = run_of source limits text most expected explain stats explain stopped done reports c more most_words d differs by within explains is_most;
        output = subst (Takes o.out m.out) printed shown.output;
        errors = takes_both o.err m.err err' lines last shown.errors stop;
        status_is = after ∙ ap₂ (λ d s. status_after stopped (status_if_same d s)) (differs ∙ ap (differences_from expected source limits) printed)
            (shown.status_is ∙ ap status_of (ends_refine c state by.ran.2.refines.represents));
        same = same;
      }

  -- a write of its lines failed
  pub lines_in_part : (ended : Bool) (more : List ℕ) (o o' : OutputState) → IsRunText explain ended source limits (zip done reports) c more
      → AreCut c.printed (lines_from 0 (map end_of c.threads) ++ more) o o' → IsRunInPart source limits text most expected explain stats ended o o'
  lines_in_part ended more o o' explains cut =
      let lines = lines_from 0 (map end_of c.threads) ++ more in
      record {
        stopped = stopped;
        state = state;
        reported = lines ++ last;
        is_run = run_of source limits text most expected explain stats ended stopped done reports c more most_words d differs by within explains is_most;
        cut = subst (λ p. AreCut p (lines ++ last) o o') printed (cut_more c.printed lines last o o' cut);
      }

  -- a write of what it shows failed
  pub run_in_part : (o o' : OutputState) → IsRunShownInPart explain source limits done reports c o o' → IsRunInPart source limits text most expected explain stats explain o o'
  run_in_part o o' (more, explains, cut) = lines_in_part explain more o o' explains cut

  -- a write failed of what comes last
  pub run_then_in_part : (o m : OutputState) (err' : StreamState) (before : ℕ) → IsRunShown explain source limits done reports c o m before → Fails m.err err' last
      → IsRunInPart source limits text most expected explain stats explain o (record m { err = err' })
  run_then_in_part o m err' before (more, explains, shown) stop =
      let lines = lines_from 0 (map end_of c.threads) ++ more in
      record {
        stopped = stopped;
        state = state;
        reported = lines ++ last;
        is_run = run_of source limits text most expected explain stats explain stopped done reports c more most_words d differs by within explains is_most;
        cut = subst (λ p. AreCut p (lines ++ last) o (record m { err = err' })) printed (cut_after c.printed lines last o m err' shown.output shown.errors stop);
      }

-- ---- what a trace shows

module _ (source : List ℕ) (limits : Limits) (text : List ℕ) (explain : Bool) (events : List Event) (initial after : MachineState) (reports : List Report) (o : OutputState) (between : StreamState) (o' : OutputState)
    (ready : IsReady source limits text events initial) (traced : IsTraced initial events after reports o.out.contents between.contents) where
  abbrev done : HasDone ready.tree limits events reports after
  done = has_done ready.tree limits initial after events reports ready.is_accepted.accepted ready.in_range ready.opened.initial traced.transitions

  -- all events are done
  by : IsRunBy source limits text events reports false after
  by = record { events = events; are_read = ready.are_read; are_done = record { rest = []; are = sym (append-nil events); all = λ none. refl }; ran = (ready.tree, ready.is_accepted, done) }

  -- a write of what the machine shows failed
  pub traced_in_part : IsMachineShownInPart explain after (record o { out = between }) o' → IsTracedAndRunInPart source limits text explain o o'
  traced_in_part left = record {
    events = events;
    initial = initial;
    ready = ready;
    after = after;
    reports = reports;
    between = between;
    traced = traced;
    shown = lines_in_part source limits text None None explain false false events reports after by tt no_differences refl None tt false left.0 (record o { out = between }) o' (live_text explain false source limits (zip events reports) after left.0 left.1) left.2;
  }

  -- all that it shows is written
  pub has_traced : (status : ℕ) → IsMachineShown explain after (record o { out = between }) o' status → o'.texts ≡ o.texts → HasTraced source limits text explain o o' status
  has_traced status left same =
      let refines = done.refines in
      record {
        events = events;
        reports = reports;
        state = refines.state;
        results_in = record { are_read = ready.are_read; by_events = record { tree = ready.tree; is_accepted = ready.is_accepted; in_range = ready.in_range; is_run = refines.is_run; budgets = refines.budgets; bounded = done.bounded } };
        initial = initial;
        opened = ready.opened;
        after = after;
        between = between;
        traced = traced;
        represents = refines.represents;
        leaves = done.leaves;
        explanation = left.0;
        explains = left.1;
        shown = shown_of after refines.state left.0 (record o { out = between }) o' status refines.represents left.2;
        same = same;
      }

-- ---- failures

-- a failed write is no refusal
pub no_refusal : (failure : Failure) → IsOfWriting failure → is_refusal failure ≡ true → ⊥
no_refusal failure (inl memory) refused = let e : false ≡ true = sym (ap is_refusal memory) ∙ refused in absurd (cc e)
no_refusal failure (inr device) refused = let e : false ≡ true = sym (ap is_refusal device) ∙ refused in absurd (cc e)

-- nor is out of memory a failed write
pub no_device : (failure : Failure) → failure ≡ Memory → failure ≡ Device → ⊥
no_device failure memory device = let e : Memory ≡ Device = sym memory ∙ device in absurd (cc e)

-- ---- how a command is given up

-- before anything is written
pub nothing_written : {IsReason : Failure → Type 0} {IsPart : OutputState → OutputState → Type 0} (o o' : OutputState) (failure : Failure) → IsReason failure → (failure ≡ Device → ⊥)
    → IsUntouched o o' → o'.texts ≡ o.texts → IsGivenUp IsReason IsPart o o' failure
nothing_written o o' failure reason no_device untouched same = record {
  reason = reason;
  untouched = λ refused. untouched;
  device = λ device. absurd (no_device device);
  in_part = inl untouched;
  same = same;
}

-- as a write failed
pub write_failed : {IsReason : Failure → Type 0} {IsPart : OutputState → OutputState → Type 0} (o o' : OutputState) (failure : Failure) → IsReason failure → IsOfWriting failure → HasFailedWrite o o'
    → IsPart o o' → o'.texts ≡ o.texts → IsGivenUp IsReason IsPart o o' failure
write_failed o o' failure reason writing broken part same = record {
  reason = reason;
  untouched = λ refused. absurd (no_refusal failure writing refused);
  device = λ device. broken;
  in_part = inr part;
  same = same;
}

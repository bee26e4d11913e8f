-- What a run by workers that is shown, whole or in part, shows of its source.
use Rattle.std.proofs.Common.{◌≡◌, ◌++◌, ◌+◌, ℕ, Bool, true, false, cond, List, [], ◌∷◌, map, Option, Some, None, refl, ap, sym, ◌∙◌, subst, arith, All, is_none, inl, inr}
use Rattle.std.proofs.lemmas.Bool.{lt-ltb}
use Rattle.std.proofs.lemmas.List.Elements.{All-head, All-tail}
use Rattle.std.proofs.lemmas.List.Sums.{sum_by-cons}
use Rattle.std.specs.Prelude.{IfSome}
use Rattle.cil_model.specs.declared.events.Event.TheVariants.{Step, Ack, Gc}
use Rattle.cil_model.specs.declared.limits.TheConstants.{MOST_THREADS}
use Rattle.source_runs.specs.shared_machine.declared.history.Entry.{Entry}
use Rattle.source_runs.specs.simulation.threads_monitors.declared.threads.Thread.{Thread}
use Rattle.cil_model.specs.declared.stops.StopAt.{StopAt}
use Rattle.cil_model.specs.declared.stops.StopAt.TheVariants.{End as AtEnd, Deadlock as AtDeadlock}
use Rattle.commands.specs.declared.order.Order.{Order}
use Rattle.commands.specs.declared.order.Order.TheVariants.{Check, Run as RunOrder, Trace, Picture, Explore, Flip}
use Rattle.commands.specs.declared.run.Run.{Run}
use Rattle.commands.specs.declared.run.RunKind.{RunKind}
use Rattle.commands.specs.declared.run.RunKind.TheVariants.{Schedule, Replay, Workers}
use Rattle.commands.specs.Runs.{record_file_of_kind}
use Rattle.driver.proofs.Names.{count_by, list_all, list_any, zip, Event, Limits, End, has_thread_number, Fails, StreamState, Takes, takes_both, ends_refine, printed_refines, HasRunTo, IsPrintedUpTo, results_in, events_of, reports_of, MachineState, RefinesAfter, end_of, is_live_thread, HasEnded, IsOwn, IsOwnOf, Represents, State, record_file_of, AreCut, HasRunThreads, HaveEnded, IsOutcome, IsRunByWorkers, IsRunByWorkersInPart, IsRunDone, IsRunShown, IsRunShownInPart, IsRunText, status_after, stop_text, OutputState, IsRecordOf, is_short, status_with, texts_in, texts_over, too_long_text, IsMostOfRun, stats_text, is_live, lines_from, status_of, run_file, RunFile}
use Rattle.driver.proofs.OutcomeLemmas.{cut_after, cut_more}
use Rattle.driver.specs.declared.recording.Record.{Record}
use Rattle.driver.specs.declared.recording.Record.TheVariants.{Unasked, Texts, TooLong, NoMemory}

-- a worker's own event names a thread that a machine can have
own_has_number : (workers worker : ℕ) (e : Event) → IsOwn workers worker e → has_thread_number e ≡ true
own_has_number workers worker (Step thread) own = lt-ltb thread MOST_THREADS own.0
own_has_number workers worker (Ack thread) own = lt-ltb thread MOST_THREADS own.0
own_has_number workers worker Gc own = refl

-- so do all events of a history
pub all_have_numbers : (workers : ℕ) (h : List Entry) → All (IsOwnOf workers) h → list_all has_thread_number (events_of h) ≡ true
all_have_numbers workers [] all = refl
all_have_numbers workers (e ∷ es) all =
    rw (own_has_number workers e.worker e.event (All-head (IsOwnOf workers) e es all)) (all_have_numbers workers es (All-tail (IsOwnOf workers) e es all))

not_counted : (b : Bool) (n : ℕ) → cond b 1 0 + n ≡ 0 → (b ≡ false) × (n ≡ 0)
not_counted true n none = absurd (omega (arith, none))
not_counted false n none = (refl, omega (arith, none))

not_shown_live : (e : Option End) → is_none e ≡ false → is_live e ≡ false
not_shown_live None ended = absurd (cc ended)
not_shown_live (Some e) ended = refl

-- where no thread is live, none is shown as such
none_live : (ts : List Thread) → count_by is_live_thread ts ≡ 0 → list_any is_live (map end_of ts) ≡ false
none_live [] none = refl
none_live (t ∷ ts) none =
    let (here, later) = not_counted (is_live_thread t) (count_by is_live_thread ts) (sym (sum_by-cons (λ (x : Thread). cond (is_live_thread x) 1 0) t ts) ∙ none) in
    rw (not_shown_live (end_of t) here) (none_live ts later)

-- how workers leave a machine is how they leave the state that it represents
have_ended : (stop_at : StopAt) (c : MachineState) (s : State) (marked : Bool) → Represents c s → HasEnded stop_at c marked → HaveEnded stop_at c s
have_ended AtEnd c s marked represents none = subst (λ es. list_any is_live es ≡ false) (ends_refine c s represents) (none_live c.threads none)
have_ended AtDeadlock c s marked represents (inl none) = inl (subst (λ es. list_any is_live es ≡ false) (ends_refine c s represents) (none_live c.threads none))
have_ended AtDeadlock c s marked represents (inr (stop, deadlocked)) = inr deadlocked

-- what is reported of a machine that workers ran
abbrev pub reported_of : MachineState → List ℕ → List ℕ → List ℕ
reported_of c text last = lines_from 0 (map end_of c.threads) ++ text ++ last

module _ (source : List ℕ) (limits : Limits) (workers : ℕ) (stop_at : StopAt) (most : Option ℕ) (asked explain stats stopped : Bool) (h : List Entry) (c : MachineState) (made : Record)
    (ran : HasRunTo source limits (events_of h) (reports_of h) c) (own : All (IsOwnOf workers) h) (within : IsPrintedUpTo most c.printed)
    (marked : Bool) (ended : stopped ≡ false → HasEnded stop_at c marked) (is_record : IsRecordOf asked (events_of h) (run_file source limits workers c.printed) made)
    (most_words : Option ℕ) (is_most : IfSome most_words (IsMostOfRun source limits (zip (events_of h) (reports_of h)))) where
  abbrev after : RefinesAfter ran.0 limits (events_of h) (reports_of h) c
  after = ran.2.refines

  -- what comes last: why there is no record, that memory ran out, and the numbers of the run
  abbrev last : List ℕ
  last = too_long_text made ++ stop_text (is_short stopped made) ++ stats_text stats (events_of h) (reports_of h) c most_words

  -- a machine that workers ran shows a run by workers
  run_by_workers : (text : List ℕ) → IsRunText explain explain source limits (zip (events_of h) (reports_of h)) c text → IsRunByWorkers source limits workers stop_at most asked explain stats stopped after.state made (reported_of c text last)
  run_by_workers text explains =
      let ends = ends_refine c after.state after.represents in
      record {
        entries = h;
        own = own;
        results_in = results_in source ran.0 limits (events_of h) (reports_of h) c ran.1 ran.2;
        within = subst (IsPrintedUpTo most) (printed_refines c after.state after.represents) within;
        ended = λ whole. have_ended stop_at c after.state marked after.represents (ended whole);
        is_record = subst (λ p. IsRecordOf asked (events_of h) (run_file source limits workers p) made) (printed_refines c after.state after.represents) is_record;
        after = c;
        represents = after.represents;
        explanation = text;
        explains = explains;
        most_words = most_words;
        is_most = is_most;
        reports_all = ap (λ es. lines_from 0 es ++ text ++ last) ends;
      }

  -- all that it shows is written, and the texts of the record are left
  pub has_run_threads : (o m o' : OutputState) (before status : ℕ) → IsRunShown explain source limits (events_of h) (reports_of h) c o m before → o'.out ≡ m.out → o'.texts ≡ texts_over (texts_in made) o.texts
      → (status ≡ status_after (is_short stopped made) (status_with made before)) × Takes m.err o'.err last
      → HasRunThreads source limits workers stop_at most asked explain stats o o' status
  has_run_threads o m o' before status (text, explains, shown) printed left (is, more) =
      record {
        stopped = stopped;
        state = after.state;
        made = made;
        reported = reported_of c text last;
        is_run = run_by_workers text explains;
        output = subst (λ x. Takes o.out x after.state.printed) (sym printed) (subst (Takes o.out m.out) (printed_refines c after.state after.represents) shown.output);
        errors = takes_both o.err m.err o'.err (lines_from 0 (map end_of c.threads) ++ text) last shown.errors more;
        left = left;
        status_is = is ∙ ap (λ n. status_after (is_short stopped made) (status_with made n)) (shown.status_is ∙ ap status_of (ends_refine c after.state after.represents));
      }

  -- a write of what it shows failed
  pub threads_in_part : (o o' : OutputState) → IsRunShownInPart explain source limits (events_of h) (reports_of h) c o o' → IsRunByWorkersInPart source limits workers stop_at most asked explain stats o o'
  threads_in_part o o' (text, explains, cut) =
      let lines = lines_from 0 (map end_of c.threads) ++ text in
      record {
        stopped = stopped;
        state = after.state;
        made = made;
        reported = reported_of c text last;
        is_run = run_by_workers text explains;
        cut = subst (λ p. AreCut p (lines ++ last) o o') (printed_refines c after.state after.represents) (cut_more c.printed lines last o o' cut);
      }

  -- a write of what comes last failed
  pub threads_then_in_part : (o m : OutputState) (err' : StreamState) (before : ℕ)
      → IsRunShown explain source limits (events_of h) (reports_of h) c o m before → Fails m.err err' last
      → IsRunByWorkersInPart source limits workers stop_at most asked explain stats o (record m { err = err' })
  threads_then_in_part o m err' before (text, explains, shown) failed =
      let lines = lines_from 0 (map end_of c.threads) ++ text in
      record {
        stopped = stopped;
        state = after.state;
        made = made;
        reported = reported_of c text last;
        is_run = run_by_workers text explains;
        cut = subst (λ p. AreCut p (lines ++ last) o (record m { err = err' })) (printed_refines c after.state after.represents) (cut_after c.printed lines last o m err' shown.output shown.errors failed);
      }

-- some record is of events, whether one is asked for or not
pub some_record : (asked : Bool) (events : List Event) (file : RunFile) → (made : Record) × IsRecordOf asked events file made
some_record true events file = (NoMemory, refl)
some_record false events file = (Unasked, refl)

-- a record that is not asked for has no texts
no_texts : (events : List Event) (file : RunFile) (made : Record) → IsRecordOf false events file made → texts_in made ≡ None
no_texts events file Unasked is = refl
no_texts events file (Texts texts) is = absurd (cc is.0)
no_texts events file TooLong is = absurd (cc is.0)
no_texts events file NoMemory is = absurd (cc is)

-- a run that names no file for a record leaves the texts of the record as they were
nothing_kept_of_run : (run : Run) (source schedule : List ℕ) (kind : RunKind) (o o' : OutputState) (status : ℕ) → IsRunDone run source schedule kind o o' status → record_file_of_kind kind ≡ None → o'.texts ≡ o.texts
nothing_kept_of_run run source schedule (Schedule text limits) o o' status done none = done.same
nothing_kept_of_run run source schedule (Replay name limits expected) o o' status done none = done.same
nothing_kept_of_run run source schedule (Workers workers None stop_at limits) o o' status done none =
    done.left ∙ ap (λ (texts : Option (List ℕ × List ℕ)). texts_over texts o.texts)
    (no_texts (events_of done.is_run.entries) (run_file source limits workers.count done.state.printed) done.made done.is_run.is_record)
nothing_kept_of_run run source schedule (Workers workers (Some name) stop_at limits) o o' status done none = absurd (cc none)

-- an order that names no file for a record leaves the texts of the record as they were
pub nothing_kept : (order : Order) (source schedule : List ℕ) (o o' : OutputState) (status : ℕ) → IsOutcome order source schedule o o' status → record_file_of order ≡ None → o'.texts ≡ o.texts
nothing_kept order source schedule o o' status (inr reported) none = reported.given_up.same
nothing_kept (Check file explain) source schedule o o' status (inl done) none = done.4
nothing_kept (RunOrder run) source schedule o o' status (inl done) none = nothing_kept_of_run run source schedule run.kind o o' status done none
nothing_kept (Trace file name limits expected explain) source schedule o o' status (inl done) none = done.same
nothing_kept (Picture file name part limits expected explain) source schedule o o' status (inl (inl done)) none = done.same
nothing_kept (Picture file name part limits expected explain) source schedule o o' status (inl (inr done)) none = done.same
nothing_kept (Explore file extent None limits explain) source schedule o o' status (inl done) none =
    done.left ∙ ap (λ (texts : Option (List ℕ × List ℕ)). texts_over texts o.texts) done.are_saved
nothing_kept (Explore file extent (Some name) limits explain) source schedule o o' status (inl done) none = absurd (cc none)
nothing_kept (Flip sizes) source schedule o o' status (inl done) none = done.4

-- What a run that is drawn, whole or in part, shows of its source.
use Rattle.std.proofs.Common.{◌≡◌, ◌++◌, ◌≤◌, ℕ, Bool, List, length, subst, ◌∙◌, ap}
use Rattle.commands.specs.declared.part.Part.{Part}
use Rattle.driver.proofs.Names.{ends_refine, MachineState, IsReady, has_done, HasDone, Event, Limits, Report, event_count, Fails, Takes, IsPicture, MOST_EVENTS, AreThreadsShown, AreThreadsShownInPart, HasDrawn, IsPicturedAndRunInPart, IsRunDrawn, IsThreadText, OutputState, window_of, lines_from, status_of}

module _ (source : List ℕ) (limits : Limits) (text : List ℕ) (part : Part) (explain : Bool) (events : List Event) (initial after : MachineState) (reports : List Report) (o o' : OutputState)
    (ready : IsReady source limits text events initial) (few : event_count part (length events) ≤ MOST_EVENTS)
    (pictured : IsPicture initial events after reports (window_of part (length events)) o.out.contents o'.out.contents) (same : o'.texts ≡ o.texts) where
  done : HasDone ready.tree limits events reports after
  done = has_done ready.tree limits initial after events reports ready.is_accepted.accepted ready.in_range ready.opened.initial pictured.transitions

  -- what is drawn, with what explains it
  drawn : (explanation : List ℕ) → IsThreadText explain after explanation → IsRunDrawn source limits text part explain o o'
  drawn explanation explains =
      let refines = done.refines in
      record {
        events = events;
        few = few;
        reports = reports;
        state = refines.state;
        results_in = record { are_read = ready.are_read; by_events = record { tree = ready.tree; is_accepted = ready.is_accepted; in_range = ready.in_range; is_run = refines.is_run; budgets = refines.budgets; bounded = done.bounded } };
        initial = initial;
        opened = ready.opened;
        after = after;
        pictured = pictured;
        represents = refines.represents;
        explanation = explanation;
        explains = explains;
      }

  -- what the machine that was drawn shows
  pub has_drawn : (status : ℕ) → AreThreadsShown explain after o.err o'.err status → HasDrawn source limits text part explain o o' status
  unfolding drawn
  has_drawn status shown =
      let ends = ends_refine after done.refines.state done.refines.represents in
      record {
        drawn = drawn shown.0 shown.1;
        leaves = done.leaves;
        errors = subst (λ es. Takes o.err o'.err (lines_from 0 es ++ shown.0)) ends shown.2;
        status_is = shown.3 ∙ ap status_of ends;
        same = same;
      }

  -- what it shows where a write of that fails
  pub drawn_in_part : AreThreadsShownInPart explain after o.err o'.err → IsPicturedAndRunInPart source limits text part explain o o'
  unfolding drawn
  drawn_in_part shown = record {
    drawn = drawn shown.0 shown.1;
    errors = subst (λ es. Fails o.err o'.err (lines_from 0 es ++ shown.0)) (ends_refine after done.refines.state done.refines.represents) shown.2;
  }

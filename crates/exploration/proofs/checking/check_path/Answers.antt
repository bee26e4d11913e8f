use Rattle.std.proofs.Common.{◌≡◌, Bool, IsSome, List, Option, Some, length, map, refl, sym, ap, ◌∙◌, slice_get, subst}
use Rattle.exploration.proofs.Names.{same_Some, slice_get_read, one_operation, Event, LeadsTo, events_of, outcome_found}
use Rattle.exploration.proofs.CheckedSteps.{all_steps, some_step}
use Rattle.exploration.proofs.Paths.{events_there, if_ok, not_terminal_shown}
use Rattle.exploration.proofs.checking.check_path.Goals as goal

pub returns-then-can_step-clause-closed : goal.returns-then-can_step-clause-closed
returns-then-can_step-clause-closed g c = λ _ events there.
    all_steps g.M.First.first (map events_of c.args.paths.now) (one_operation g.M.First.first.tree c.requires.legal) c.args.entries.now c.requires.entries c.args.path_index events there
    (c.can_any_step.ensures.all (subst (λ (o : Option Bool). IsSome o) (sym c.in-Some-can_any_step.is) refl))

pub returns-then-can_step-clause-shown : goal.returns-then-can_step-clause-shown
returns-then-can_step-clause-shown g c = λ _ events there.
    let some = c.can_any_step.ensures.some (c.in-Some-can_any_step.is ∙ ap Some c.if-can_step.true) in
    not_terminal_shown g.M.First.first (map outcome_found c.args.found.now) events
    (some_step g.M.First.first (map events_of c.args.paths.now) (one_operation g.M.First.first.tree c.requires.legal) c.args.entries.now c.requires.entries c.args.path_index events there some.0 some.1 some.2)

pub returns-clause-closed : goal.returns-clause-closed
returns-clause-closed g c = if_ok c.shows_one_of.result c.shows_one_of.ensures (λ yes among known events there.
    all_steps g.M.First.first (map events_of c.args.paths.now) (one_operation g.M.First.first.tree c.requires.legal) c.args.entries.now c.requires.entries c.args.path_index events there
    (c.can_any_step.ensures.all (subst (λ (o : Option Bool). IsSome o) (sym c.in-Some-can_any_step.is) refl)))

pub returns-clause-shown : goal.returns-clause-shown
returns-clause-shown g c = if_ok c.shows_one_of.result c.shows_one_of.ensures (λ yes among known events there.
    let path = c.in-Some.path.now in
    let at : slice_get (map events_of c.args.paths.now) c.args.path_index ≡ Some (events_of path) = events_there c.args.paths.now c.args.path_index path (slice_get_read c.args.paths.now (length c.args.paths.now) c.args.path_index path refl c.in-Some.ensures.lookup.3.0 c.in-Some.ensures.lookup.1) in
    (c.replay.new.self, subst (λ (es : List Event). LeadsTo g.M.First.first es c.replay.new.self) (c.as_slice.ensures.value ∙ same_Some (events_of path) events (sym at ∙ there)) c.in_ok-replay.ensures, λ _. among known))

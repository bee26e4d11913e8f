use Rattle.std.proofs.Common.{◌≡◌, List, Some, length, map, refl, sym, ◌∙◌, slice_get, subst, arith}
use Rattle.exploration.proofs.Names.{same_Some, slice_get_read, one_operation, Event, AreEntries, IsStepChecked, events_of}
use Rattle.exploration.proofs.CheckedSteps.{led_among, noted, stepped}
use Rattle.exploration.proofs.Paths.{events_there}
use Rattle.exploration.proofs.checking.note_step.Goals as goal

pub returns : goal.returns
returns g c =
    let first = g.M.First.first in
    let paths = map events_of c.args.paths.now in
    let can = c.in-Some-checked.can_step in
    let there : slice_get paths c.args.step.path ≡ Some (events_of c.in-Some.path.now) = events_there c.args.paths.now c.args.step.path c.in-Some.path.now (slice_get_read c.args.paths.now (length c.args.paths.now) c.args.step.path c.in-Some.path.now refl c.in-Some.ensures.lookup.3.0 c.in-Some.ensures.lookup.1) in
    let into = c.in_ok-checked.ensures can c.in-Some-checked.is in
    let checked : IsStepChecked first paths c.as_slice.result.now c.args.step.thread can = stepped first paths (one_operation first.tree c.requires.legal) c.as_slice.result.now c.args.step.thread c.args.other.now can into (led_among first paths c.args.path_index c.args.other.now c.requires.there) in
    subst (AreEntries first paths) (sym c.note.ensures)
    (noted first paths c.args.entries.now.items c.requires.entries c.args.step.path c.args.step.thread (omega arith) can
    (λ events at. subst (λ (es : List Event). IsStepChecked first paths es c.args.step.thread can) (c.as_slice.ensures.value ∙ same_Some (events_of c.in-Some.path.now) events (sym there ∙ at)) checked))

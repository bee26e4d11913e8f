use Rattle.std.proofs.Common.{length, refl}
use Rattle.exploration.proofs.Names.{slice_get_read}
use Rattle.exploration.proofs.CheckedSteps.{led_by}
use Rattle.exploration.proofs.checking.note_path.Goals as goal

pub note_ended-requires-clause-there : goal.note_ended-requires-clause-there
note_ended-requires-clause-there g c =
    led_by g.M.First.first c.args.paths.now c.args.path_index c.in-Some.path.now (slice_get_read c.args.paths.now (length c.args.paths.now) c.args.path_index c.in-Some.path.now refl c.in-Some.ensures.lookup.3.0 c.in-Some.ensures.lookup.1)
    c.as_slice.result.now c.as_slice.ensures.value c.replay.new.self c.in_ok-replay.ensures

pub note_step-requires-clause-there : goal.note_step-requires-clause-there
note_step-requires-clause-there g c =
    led_by g.M.First.first c.args.paths.now c.args.path_index c.in-Some.path.now (slice_get_read c.args.paths.now (length c.args.paths.now) c.args.path_index c.in-Some.path.now refl c.in-Some.ensures.lookup.3.0 c.in-Some.ensures.lookup.1)
    c.as_slice.result.now c.as_slice.ensures.value c.replay.new.self c.in_ok-replay.ensures

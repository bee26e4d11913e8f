use Rattle.std.proofs.Common.{◌*◌, map, rules}
use Rattle.exploration.proofs.Names.{MOST_THREADS, events_of}
use Rattle.exploration.proofs.CheckedSteps.{none_noted}
use Rattle.exploration.proofs.checking.check_steps.Goals as goal

pub loop-path_index-init : goal.loop-path_index-init
loop-path_index-init g c = none_noted g.M.First.first (map events_of c.args.paths.now) c.in_ok-entries.entries.items (c.args.count * MOST_THREADS) (c.in_ok-entries.ensures.items_if_clones_equal (search rules))

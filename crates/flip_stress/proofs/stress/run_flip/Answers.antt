use Rattle.std.proofs.Common.{arith, ◌∙◌}
use Rattle.std.specs.Arc.{arc_value}
use Rattle.flip_stress.proofs.Owners.{kept_by_all, kept_fits, initial_all}
use Rattle.flip_stress.proofs.stress.run_flip.Goals as goal

pub start_all-requires : goal.start_all-requires
start_all-requires g c = (c.requires.flip, rw c.requires.writers (initial_all (arc_value c.args.flip.now)))

pub join_all-seats-requires : goal.join_all-seats-requires
join_all-seats-requires g c =
    let kept = kept_by_all c.args.sizes (arc_value c.args.flip.now) _ c.args.writers.items c.requires.flip c.requires.writers c.in_ok-threads.ensures in
    omega (arith, kept, kept_fits c.args.sizes)

pub returns-clause-kept : goal.returns-clause-kept
returns-clause-kept g c = c.outcome_of.ensures.kept ∙ (c.join_all-seats.ensures ∙ kept_by_all c.args.sizes (arc_value c.args.flip.now) _ c.args.writers.items c.requires.flip c.requires.writers c.in_ok-threads.ensures)

use Rattle.std.proofs.Common.{◌≡◌, length}
use Rattle.outputs.proofs.BeginningLaws.{TakenButFor}
use Rattle.outputs.proofs.Out.write_whole.Given as goal

-- all but the rest is taken, and no call failed
abbrev pub invariant-loop-rest : goal.invariant-loop-rest
invariant-loop-rest g l =
    TakenButFor (g.Self.Out.taken l.initial.self).contents (g.Self.Out.taken l.self).contents l.initial.rest l.rest × ((g.Self.Out.taken l.self).failures ≡ (g.Self.Out.taken l.initial.self).failures)

-- the rest becomes shorter
abbrev pub decreases-loop-rest : goal.decreases-loop-rest
decreases-loop-rest g l = length l.rest

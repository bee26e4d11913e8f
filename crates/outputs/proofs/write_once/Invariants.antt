use Rattle.std.proofs.Common.{[]}
use Rattle.std.specs.Io.KnownBytes.{Appends}
use Rattle.outputs.proofs.write_once.Given as goal

-- nothing is taken
abbrev pub invariant-loop : goal.invariant-loop
invariant-loop g l = Appends (g.W.Write.contents l.initial.out) (g.W.Write.contents l.out) []

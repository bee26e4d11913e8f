use Rattle.std.proofs.Common.{flat_map, take}
use Rattle.outputs.specs.Streams.{Takes}
use Rattle.outputs.proofs.Out.write_texts.Given as goal

-- the texts so far are taken
abbrev pub invariant-loop-text : goal.invariant-loop-text
invariant-loop-text g l = Takes (g.Self.Out.taken l.initial.self) (g.Self.Out.taken l.self) (flat_map (λ text. text.now) (take l.text-index l.texts))

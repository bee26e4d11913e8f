use Rattle.std.proofs.Common.{None}
use Rattle.std.proofs.lemmas.Option.{slice_get_within}
use Rattle.verifier.proofs.SearchLaws.{rise_high, rise_at_first}
use Rattle.verifier.proofs.search.Search.map.Goals as goal

pub set-requires-clause-inside : goal.set-requires-clause-inside
set-requires-clause-inside c = slice_get_within c.args.self.now.rows.items c.args.pc None c.requires.unmapped

pub returns-then-is_low : goal.returns-then-is_low
returns-then-is_low c = λ tree. rise_at_first tree c.args.most c.args.after.now c.args.pc c.args.self.now c.set.new.self c.in-Ok.stack c.requires.whole c.requires.unmapped (c.is_low.ensures.low c.if-is_low.true) c.in-Ok.ensures c.set.ensures.rows c.set.ensures.pending

pub returns : goal.returns
returns c = λ tree. rise_high tree c.args.most c.args.after.now c.args.pc c.args.self.now (c.is_low.ensures.high c.if-is_low.false)

use Rattle.std.proofs.Common.{◌≤◌, sym, arith, length}
use Rattle.space_block.proofs.WordSequences.{read_at}
use Rattle.space_block.proofs.Block.read.Goals as goal

pub read-requires : goal.read-requires
read-requires c =
    let inv = c.self.invariant in let old = c.self.inside.words.slots in let used = c.self.inside.used in
    let inside : used ≤ length old = omega (arith, inv.2, inv.3) in
    let given = rw (← c.self.view_is) at c.requires in
    (sym inv.0, (_, read_at old used inv.1 inside c.args.index given))

pub returns : goal.returns
returns c =
    let inv = c.self.invariant in let old = c.self.inside.words.slots in let used = c.self.inside.used in
    let inside : used ≤ length old = omega (arith, inv.2, inv.3) in
    let given = rw (← c.self.view_is) at c.requires in
    let here = read_at old used inv.1 inside c.args.index given in
    let decoded = c.read.ensures in
    rw (← c.self.view_is) cc

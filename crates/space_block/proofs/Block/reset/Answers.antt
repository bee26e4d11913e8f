use Rattle.std.proofs.Common.{◌≤◌, sym, ap, ◌∙◌, arith, length}
use Rattle.space_block.specs.Rows.{blank}
use Rattle.space_block.proofs.WordSequences.{blank_row, length-row}
use Rattle.space_block.proofs.Block.reset.Goals as goal

pub returns : goal.returns
returns c =
    let inv = c.self.invariant in let old = c.self.inside.words.slots in let used = c.self.inside.used in
    let inside : used ≤ length old = omega (arith, inv.2, inv.3) in
    rw (← c.self.view_is) (blank_row old ∙ ap blank (sym (length-row old used inv.1 inside)))

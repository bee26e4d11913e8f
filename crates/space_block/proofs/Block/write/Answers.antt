use Rattle.std.proofs.Common.{◌≤◌, sym, ap, ◌∙◌, arith, length}
use Rattle.std.proofs.Math.ListN.{length-set}
use Rattle.std.specs.Prelude.{Some}
use Rattle.space_block.specs.WrittenWords.{row_of}
use Rattle.space_block.proofs.WordSequences.{stored_at, stored_row}
use Rattle.space_block.proofs.Block.write.Goals as goal

pub invariant_of-self : goal.invariant_of-self
invariant_of-self c =
    let inv = c.self.invariant in let made = c.write.ensures in let old = c.self.inside.words.slots in let used = c.self.inside.used in
    let inside : used ≤ length old = omega (arith, inv.2, inv.3) in
    let given = rw (← c.self.view_is) at c.requires in (
      made.0 ∙ inv.0,
      rw made.1 (stored_at old used inv.1 inside c.args.index c.args.word given).full,
      inv.2,
      inv.3 ∙ sym (ap length made.1 ∙ length-set old c.args.index (Some c.args.word)),
      inv.4,
      inv.5,
      inv.6,
    )

pub returns : goal.returns
returns c =
    let inv = c.self.invariant in let old = c.self.inside.words.slots in let used = c.self.inside.used in
    let inside : used ≤ length old = omega (arith, inv.2, inv.3) in
    let given = rw (← c.self.view_is) at c.requires in
    rw (← c.self.view_is) (ap (λ ds. row_of ds used) c.write.ensures.1 ∙ stored_row old used inv.1 inside c.args.index c.args.word given)

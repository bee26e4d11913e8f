use Rattle.std.proofs.Common.{◌≤◌, ◌+◌, ap, ◌∙◌, length, sym, arith}
use Rattle.space_block.specs.WrittenWords.{row_of}
use Rattle.space_block.proofs.WordSequences.{extended, extended_row, length-cleared, length-row}
use Rattle.space_block.proofs.Block.extend.Goals as goal

pub invariant_of-self : goal.invariant_of-self
invariant_of-self c =
    let inv = c.self.invariant in let made = c.clear.ensures in let old = c.self.inside.words.slots in
    let used = c.self.inside.used in let end = used + c.args.count in
    let given = rw (← c.self.view_is) at c.requires in
    let inside : used ≤ length old = omega (arith, inv.2, inv.3) in
    let within : end ≤ length old = omega (arith, given, length-row old used inv.1 inside) in (
      made.0 ∙ inv.0,
      rw made.1 (extended old used inv.1 inside end (omega arith) within).full,
      omega (arith, within, inv.3),
      inv.3 ∙ sym (ap length made.1 ∙ length-cleared old used end (omega arith) within),
      inv.4,
      inv.5,
      inv.6,
    )

pub returns : goal.returns
returns c =
    let inv = c.self.invariant in let made = c.clear.ensures in let old = c.self.inside.words.slots in
    let used = c.self.inside.used in let end = used + c.args.count in
    let given = rw (← c.self.view_is) at c.requires in
    let inside : used ≤ length old = omega (arith, inv.2, inv.3) in
    let within : end ≤ length old = omega (arith, given, length-row old used inv.1 inside) in
    rw (← c.self.view_is) (ap (λ ds. row_of ds end) made.1 ∙ extended_row old used inv.1 inside end (omega arith) within)

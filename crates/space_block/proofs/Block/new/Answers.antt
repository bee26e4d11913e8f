use Rattle.std.proofs.Common.{refl, sym, ap, ◌∙◌, arith, length}
use Rattle.std.proofs.lemmas.List.{length-replicate}
use Rattle.std.specs.Prelude.{ℕ, Option, None}
use Rattle.space_block.specs.Rows.{blank}
use Rattle.space_block.proofs.WordSequences.{blank_row}
use Rattle.space_block.proofs.Block.new.Goals as goal

pub invariant_of-result : goal.invariant_of-result
invariant_of-result c =
    let taken = c.in_ok-front.ensures in
    (taken.0, refl, omega arith, sym (ap length taken.1 ∙ length-replicate {A = Option ℕ} c.args.words None), taken.2, taken.3, taken.4)

pub returns : goal.returns
returns c =
    let taken = c.in_ok-front.ensures in
    blank_row c.in_ok-front.held.slots ∙ ap (λ ds. blank (length ds)) taken.1 ∙ ap blank (length-replicate {A = Option ℕ} c.args.words None)

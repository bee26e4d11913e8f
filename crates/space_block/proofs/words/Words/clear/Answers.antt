use Rattle.std.proofs.Common.{ap, ◌∙◌, set, arith}
use Rattle.std.specs.Prelude.{Some}
use Rattle.space_block.proofs.WordSequences.{cleared_more}
use Rattle.space_block.proofs.words.Words.clear.Goals as goal

pub loop-index-preserved : goal.loop-index-preserved
loop-index-preserved c =
    let before = c.loop-index.invariant in let made = c.write.ensures in let old = c.args.self.now.slots in let i = c.loop-index.index in
    record {
      same_address = made.0 ∙ before.same_address;
      cleared = made.1 ∙ ap (λ cs. set cs i (Some 0)) before.cleared ∙ cleared_more old c.args.from i before.order (omega (arith, c.loop-index-test.true, c.requires.2));
      order = omega (arith, before.order);
    }

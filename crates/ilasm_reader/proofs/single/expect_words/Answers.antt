use Rattle.std.proofs.Common.{◌∙◌}
use Rattle.std.proofs.lemmas.Result.{err_from_is_err_and}
use Rattle.ilasm_reader.proofs.Words.{taken, fails, all_taken}
use Rattle.ilasm_reader.proofs.single.expect_words.Goals as goal

pub returns-in_err-expect_word : goal.returns-in_err-expect_word
returns-in_err-expect_word c =
    let p = err_from_is_err_and c.from_residual.result c.from_residual.ensures.1 in
    rw (p.1, p.2) (fails c.in_err-expect_word.field-0.0 c.args.words.now c.loop-word.word-index _ c.loop-word.tokens.now _ c.loop-word-test.true c.loop-word.invariant c.in_err-expect_word.ensures)

pub loop-word-preserved : goal.loop-word-preserved
loop-word-preserved c = c.loop-word.invariant ∙ taken c.args.words.now c.loop-word.word-index _ c.loop-word.tokens.now c.expect_word.new.tokens.now c.loop-word-test.true c.in_ok-expect_word.ensures

pub returns : goal.returns
returns c = c.loop-word.invariant ∙ all_taken c.args.words.now c.loop-word.word-index c.loop-word.tokens.now c.loop-word-test.false

use Rattle.std.proofs.Common.{◌≡◌, map, drop}
use Rattle.ilasm_reader.specs.Parsing.{words_at}
use Rattle.ilasm_reader.proofs.single.expect_words.Given as goal

abbrev pub invariant-loop-word : goal.invariant-loop-word
invariant-loop-word l = words_at (map (λ word. word.now) l.fn.words) l.fn.tokens.now ≡ words_at (map (λ word. word.now) (drop l.word-index l.words)) l.tokens.now

use Rattle.std.proofs.Common.{◌≡◌, ◌<◌, drop}
use Rattle.ilasm_tokens.specs.Vocabulary.{bucket_from}
use Rattle.ilasm_tokens.proofs.words.bucket_of.Given as goal

abbrev pub invariant-loop-byte : goal.invariant-loop-byte
invariant-loop-byte l = record { bound : l.sum < 64; value : bucket_from l.sum (drop l.byte-index l.word) ≡ bucket_from 0 l.word }

use Rattle.std.proofs.Common.{◌≡◌, drop, map}
use Rattle.ilasm_tokens.specs.Vocabulary.{look_up}
use Rattle.ilasm_tokens.proofs.words.look_up.Given as goal

abbrev pub invariant-loop-reserved : goal.invariant-loop-reserved
invariant-loop-reserved l = look_up (map (λ e. (e.0.now, e.1)) (drop l.reserved-index l.entries)) l.word ≡ look_up (map (λ e. (e.0.now, e.1)) l.entries) l.word

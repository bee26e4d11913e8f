use Rattle.std.proofs.Common.{◌≡◌, map, take}
use Rattle.std.specs.Prelude.{filter_map}
use Rattle.cil_model.specs.Same.{same_text}
use Rattle.cil_model.specs.Mentions.{literal_of, each_once}
use Rattle.name_tables.specs.Keys.{text_of_key}
use Rattle.resolved_code.proofs.literals.distinct_literals.Given as goal

abbrev pub invariant-loop-instruction : goal.invariant-loop-instruction
invariant-loop-instruction l = map text_of_key l.texts.keys ≡ each_once same_text (filter_map literal_of (map (λ i. i.now) (take l.instruction-index l.instructions)))

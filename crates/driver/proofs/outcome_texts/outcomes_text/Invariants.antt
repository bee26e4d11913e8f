use Rattle.std.specs.Prelude.{string_bytes}
use Rattle.driver.proofs.Names.{IsShownBelow}
use Rattle.driver.proofs.outcome_texts.outcomes_text.Given as goal

-- the text has the lines of the outcomes so far
abbrev pub invariant-loop-index : goal.invariant-loop-index
invariant-loop-index l = IsShownBelow l.explain l.found l.index (string_bytes l.text)

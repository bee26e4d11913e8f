use Rattle.ilasm_tokens.proofs.Text.{at_end}
use Rattle.ilasm_tokens.proofs.lexemes.characters.Goals as goal

pub returns-in-None-clause-value : goal.returns-in-None-clause-value
returns-in-None-clause-value c =
    at_end c.loop-found.text.items c.loop-found.rest.now c.in-Some.after.now _ (rw c.in-None.is at c.in-Some.ensures.value) c.loop-found.invariant.so_far

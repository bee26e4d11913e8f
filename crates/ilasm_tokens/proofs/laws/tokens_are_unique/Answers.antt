use Rattle.ilasm_tokens.proofs.Reading.{same_tokens}
use Rattle.ilasm_tokens.proofs.laws.tokens_are_unique.Goals as goal

pub returns : goal.returns
returns c = same_tokens

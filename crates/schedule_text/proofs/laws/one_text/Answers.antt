use Rattle.schedule_text.proofs.RunLemmas.{same_text}
use Rattle.schedule_text.proofs.laws.one_text.Goals as goal

pub returns : goal.returns
returns c = same_text

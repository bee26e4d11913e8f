use Rattle.schedule_text.proofs.TextLemmas.{text_is_read}
use Rattle.schedule_text.proofs.laws.written_text_is_read.Goals as goal

pub returns : goal.returns
returns c = text_is_read

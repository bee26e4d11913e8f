use Rattle.std.proofs.Common.{◌∙◌, sym}
use Rattle.schedule_text.proofs.WritingLemmas.{all_have_numbers}
use Rattle.schedule_text.proofs.writing.have_thread_numbers.Goals as goal

pub returns : goal.returns
returns c = c.have_good_events.ensures ∙ sym (all_have_numbers c.args.items.now)

use Rattle.run_files.proofs.RunFileLemmas.{one_text}
use Rattle.run_files.proofs.laws.one_text_says_one_thing.Goals as goal

pub returns : goal.returns
returns c one other is are same = one_text one other is are same

use Rattle.run_picture.proofs.OneRow.{one_row}
use Rattle.run_picture.proofs.laws.each_event_is_in_one_row.Goals as goal

pub returns : goal.returns
returns c = λ w events reports each n within is. one_row w events reports each n within is

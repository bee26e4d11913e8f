use Rattle.event_trace.proofs.EndLaws.{lines_before}
use Rattle.event_trace.proofs.laws.lines_come_before_the_empty_line.Goals as goal

pub returns : goal.returns
returns c = lines_before

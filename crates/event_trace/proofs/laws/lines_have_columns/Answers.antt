use Rattle.event_trace.proofs.ColumnLaws.{line_columns}
use Rattle.event_trace.proofs.laws.lines_have_columns.Goals as goal

pub returns : goal.returns
returns c = line_columns

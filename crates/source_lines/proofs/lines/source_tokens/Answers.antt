use Rattle.std.proofs.Common.{◌∙◌}
use Rattle.source_lines.proofs.TokenLemmas.{none_are_read, same_as_read}
use Rattle.source_lines.proofs.lines.source_tokens.Goals as goal

pub returns-in-Ok : goal.returns-in-Ok
returns-in-Ok c = same_as_read c.args.source.now c.in-Ok.tokens c.in-Ok.ensures

pub returns-in-Err-Refused : goal.returns-in-Err-Refused
returns-in-Err-Refused c = c.new-in-Err-Refused.ensures ∙ c.new.ensures.items ∙ none_are_read c.args.source.now (rw c.in-Err-Refused.field-0-is at c.in-Err-Refused.ensures)

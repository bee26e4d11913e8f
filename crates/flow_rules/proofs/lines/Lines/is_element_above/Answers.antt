use Rattle.flow_rules.proofs.lines.Lines.is_element_above.Goals as goal

pub returns : goal.returns
returns c = λ e. (c.saturating_sub.result, c.is_up.ensures e)

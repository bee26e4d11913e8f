use Rattle.std.proofs.Common.{arith}
use Rattle.flow_rules.proofs.LineLaws.{above_by_class, above_by_brackets}
use Rattle.flow_rules.proofs.lines.Lines.is_above.Goals as goal

pub returns-then-above-below : goal.returns-then-above-below
returns-then-above-below c = λ e. above_by_class c.args.self.now.tree.now c.in-Class.class c.args.above c.args.below c.in-Class.is (c.is_element_above.ensures c.if-not-is_element_above.false) c.if-above-below.true

pub returns : goal.returns
returns c = λ e. above_by_brackets c.args.self.now.tree.now c.in-Class.class c.args.above c.args.below c.in-Class.is (c.is_element_above.ensures c.if-not-is_element_above.false) (omega arith) (c.is_same_element.ensures e)

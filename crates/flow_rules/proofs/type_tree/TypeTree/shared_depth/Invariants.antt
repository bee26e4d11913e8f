use Rattle.std.proofs.Common.{◌-◌}
use Rattle.flow_rules.proofs.type_tree.TypeTree.shared_depth.Given as goal

abbrev pub decreases-loop-least : goal.decreases-loop-least
decreases-loop-least l = l.most - l.least

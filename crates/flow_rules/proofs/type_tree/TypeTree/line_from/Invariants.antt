use Rattle.std.proofs.Common.{◌≡◌, length}
use Rattle.resolved_code.specs.declared.types.ResolvedElement.TheVariants.{Class}
use Rattle.flow_rules.specs.Merging.{IsUp, IsLine}
use Rattle.flow_rules.proofs.type_tree.TypeTree.line_from.Given as goal

abbrev pub invariant-loop-step : goal.invariant-loop-step
invariant-loop-step l = record {
  width : length l.line.items ≡ l.step;
  line : IsLine l.self l.class l.line.items;
  reached : IsUp l.self (Class l.class) l.step l.here;
}

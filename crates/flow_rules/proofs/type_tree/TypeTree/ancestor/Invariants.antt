use Rattle.std.proofs.Common.{◌≡◌, true, Some}
use Rattle.cil_model.specs.TypeTree.{ancestor}
use Rattle.flow_rules.specs.StackTypes.{type_named, is_known}
use Rattle.flow_rules.proofs.type_tree.TypeTree.ancestor.Given as goal

abbrev pub invariant-loop-step : goal.invariant-loop-step
invariant-loop-step l = record {
  reached : ancestor l.self l.step (type_named l.self l.fn.t) ≡ Some (type_named l.self l.here);
  known : is_known l.self l.here.element ≡ true;
}

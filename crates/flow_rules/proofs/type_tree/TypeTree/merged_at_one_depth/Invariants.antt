use Rattle.std.proofs.Common.{◌≡◌, true, Some}
use Rattle.cil_model.specs.TypeTree.{ancestor}
use Rattle.flow_rules.specs.StackTypes.{type_named, is_known}
use Rattle.flow_rules.proofs.DepthLaws.{NoneYet}
use Rattle.flow_rules.proofs.type_tree.TypeTree.merged_at_one_depth.Given as goal

abbrev pub invariant-loop-step : goal.invariant-loop-step
invariant-loop-step l = record {
  first_reached : ancestor l.self l.step (type_named l.self l.fn.first) ≡ Some (type_named l.self l.here);
  second_reached : ancestor l.self l.step (type_named l.self l.fn.second) ≡ Some (type_named l.self l.there);
  first_known : is_known l.self l.here.element ≡ true;
  second_known : is_known l.self l.there.element ≡ true;
  none_yet : NoneYet l.self l.step (type_named l.self l.fn.first) (type_named l.self l.fn.second);
}

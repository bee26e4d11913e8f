use Rattle.std.proofs.Common.{◌≡◌, Some}
use Rattle.cil_model.specs.TypeTree.{ancestor}
use Rattle.flow_rules.specs.StackTypes.{type_named}
use Rattle.flow_rules.proofs.type_tree.TypeTree.depth.Given as goal

abbrev pub invariant-loop-step : goal.invariant-loop-step
invariant-loop-step l = ancestor l.self l.step (type_named l.self l.fn.t) ≡ Some (type_named l.self l.here)

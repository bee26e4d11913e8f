use Rattle.std.proofs.Common.{◌≡◌, ◌-◌, true, Some}
use Rattle.cil_model.specs.Assignable.{is_class_assignable}
use Rattle.cil_model.specs.Chains.{longest_chain}
use Rattle.resolved_code.specs.declared.types.ResolvedElement.TheVariants.{Class}
use Rattle.flow_rules.specs.StackTypes.{class_named, is_known}
use Rattle.flow_rules.proofs.ChainNumbers.{is_along}
use Rattle.flow_rules.proofs.type_tree.TypeTree.is_class_assignable.Given as goal

abbrev pub invariant-loop-step : goal.invariant-loop-step
invariant-loop-step l = record {
  rest : is_along l.self (class_named l.self l.to) (longest_chain l.self - l.step) (Some (class_named l.self l.here)) ≡ is_class_assignable l.self (class_named l.self l.fn.from) (class_named l.self l.to);
  known : is_known l.self (Class l.here) ≡ true;
}

use Rattle.std.proofs.Common.{sym, subst}
use Rattle.cil_model.specs.declared.instructions.BranchCondition.{BranchCondition}
use Rattle.cil_model.specs.declared.instructions.Instruction.TheVariants as Named
use Rattle.flow_rules.specs.Flow.{IsAfter, flow_of}
use Rattle.flow_rules.proofs.operators.branch_on_condition.Goals as goal

pub returns-in-IfTrue : goal.returns-in-IfTrue
returns-in-IfTrue c = λ m label.
    subst (λ (x : BranchCondition). IsAfter m.types.now c.branch_on_value.result c.branch_on_value.new.stack (flow_of m (Named.Branch x label) c.args.stack.now))
    (sym c.in-IfTrue.is) (c.branch_on_value.ensures m label)

pub returns-in-IfFalse : goal.returns-in-IfFalse
returns-in-IfFalse c = λ m label.
    subst (λ (x : BranchCondition). IsAfter m.types.now c.branch_on_value-in-IfFalse.result c.branch_on_value-in-IfFalse.new.stack (flow_of m (Named.Branch x label) c.args.stack.now))
    (sym c.in-IfFalse.is) (c.branch_on_value-in-IfFalse.ensures m label)

pub returns-in-Compare : goal.returns-in-Compare
returns-in-Compare c = λ m label.
    subst (λ (x : BranchCondition). IsAfter m.types.now c.branch_on_comparison.result c.branch_on_comparison.new.stack (flow_of m (Named.Branch x label) c.args.stack.now))
    (sym c.in-Compare.is) (c.branch_on_comparison.ensures m label)

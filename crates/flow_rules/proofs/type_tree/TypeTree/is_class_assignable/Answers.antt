use Rattle.std.proofs.Common.{arith, ◌≡◌, ◌-◌, ◌<◌, ℕ, Some, sym, ap, ◌∙◌}
use Rattle.std.specs.Option.{is_some as has_some}
use Rattle.cil_model.specs.Assignable.{is_class_assignable}
use Rattle.cil_model.specs.Chains.{longest_chain}
use Rattle.cil_model.proofs.SameLaws.{never}
use Rattle.flow_rules.specs.StackTypes.{class_named}
use Rattle.flow_rules.proofs.ChainNumbers.{is_along, found_here, found_nowhere, found_later, based_known}
use Rattle.flow_rules.proofs.type_tree.TypeTree.is_class_assignable.Goals as goal

pub returns-in_default : goal.returns-in_default
returns-in_default c = never (sym (ap has_some (c.class.ensures.beyond c.in_default.is)) ∙ c.loop-step.invariant.known)

pub returns-then-is_or_lists : goal.returns-then-is_or_lists
returns-then-is_or_lists c =
    let below : c.loop-step.step < longest_chain c.args.self.now = omega (arith, c.loop-step-test.true, c.longest_chain-step-end.ensures) in
    found_here c.args.self.now c.class.ensures.legal (longest_chain c.args.self.now) c.loop-step.step c.loop-step.here c.args.to c.in-Some.class.now (is_class_assignable c.args.self.now (class_named c.args.self.now c.args.from) (class_named c.args.self.now c.args.to)) below c.in-Some.ensures.found c.requires.to
    (sym c.is_or_lists.ensures ∙ c.if-is_or_lists.true) c.loop-step.invariant.rest

pub returns-in-None : goal.returns-in-None
returns-in-None c =
    let below : c.loop-step.step < longest_chain c.args.self.now = omega (arith, c.loop-step-test.true, c.longest_chain-step-end.ensures) in
    found_nowhere c.args.self.now c.class.ensures.legal (longest_chain c.args.self.now) c.loop-step.step c.loop-step.here c.args.to c.in-Some.class.now (is_class_assignable c.args.self.now (class_named c.args.self.now c.args.from) (class_named c.args.self.now c.args.to)) below c.in-Some.ensures.found c.requires.to
    (sym c.is_or_lists.ensures ∙ c.if-is_or_lists.false) c.in-None.is c.loop-step.invariant.rest

pub loop-step-preserved : goal.loop-step-preserved
loop-step-preserved c = rw c.number-here.ensures (
    let below : c.loop-step.step < longest_chain c.args.self.now = omega (arith, c.loop-step-test.true, c.longest_chain-step-end.ensures) in
    record {
      rest = found_later c.args.self.now c.class.ensures.legal (longest_chain c.args.self.now) c.loop-step.step c.loop-step.here c.in-Some-base.base c.args.to c.in-Some.class.now (is_class_assignable c.args.self.now (class_named c.args.self.now c.args.from) (class_named c.args.self.now c.args.to)) below c.in-Some.ensures.found c.requires.to
          (sym c.is_or_lists.ensures ∙ c.if-is_or_lists.false) c.in-Some-base.is c.loop-step.invariant.rest;
      known = based_known c.args.self.now c.class.ensures.legal c.loop-step.here c.in-Some-base.base c.in-Some.class.now c.in-Some.ensures.found c.in-Some-base.is;
    }
    )

pub returns : goal.returns
returns c =
    let done : longest_chain c.args.self.now - c.loop-step.step ≡ 0 = omega (arith, c.loop-step-test.false, c.longest_chain-step-end.ensures) in
    sym (ap (λ (n : ℕ). is_along c.args.self.now (class_named c.args.self.now c.args.to) n (Some (class_named c.args.self.now c.loop-step.here))) done) ∙ c.loop-step.invariant.rest

pub loop-step-init : goal.loop-step-init
loop-step-init c =
    let whole : longest_chain c.args.self.now - 0 ≡ longest_chain c.args.self.now = omega arith in
    record {
      rest = ap (λ (n : ℕ). is_along c.args.self.now (class_named c.args.self.now c.args.to) n (Some (class_named c.args.self.now c.args.from))) whole;
      known = c.requires.from;
    }

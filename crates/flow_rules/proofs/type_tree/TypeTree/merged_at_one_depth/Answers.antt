use Rattle.std.proofs.Common.{◌≡◌, ◌+◌, Some, sym, ap, ◌∙◌}
use Rattle.cil_model.specs.declared.trees.Tree.{Tree}
use Rattle.cil_model.specs.declared.types.DeclaredType.{DeclaredType}
use Rattle.resolved_code.specs.declared.types.ResolvedType.{ResolvedType}
use Rattle.flow_rules.specs.StackTypes.{type_named}
use Rattle.flow_rules.proofs.Classes.{one_type}
use Rattle.flow_rules.proofs.AncestorChains.{next, too_far}
use Rattle.flow_rules.proofs.DepthLaws.{NoneYet, level_closest, none_next, level_apart, level_apart_second}
use Rattle.flow_rules.proofs.type_tree.TypeTree.merged_at_one_depth.Goals as goal

pub returns-then-is_same : goal.returns-then-is_same
returns-then-is_same c =
    let tree : Tree = c.args.self.now in
    let a : DeclaredType = type_named tree c.args.first in
    let b : DeclaredType = type_named tree c.args.second in
    let u : DeclaredType = type_named tree c.loop-step.here in
    let same : c.loop-step.there ≡ c.loop-step.here = sym (c.is_same.ensures.same c.if-is_same.true) in
    level_closest tree c.loop-step.step a b u c.requires.level c.loop-step.invariant.none_yet c.loop-step.invariant.first_reached
    (c.loop-step.invariant.second_reached ∙ ap (λ (t : ResolvedType). Some (type_named tree t)) same)

pub returns-in_err-one : goal.returns-in_err-one
returns-in_err-one c =
    let tree : Tree = c.args.self.now in
    let a : DeclaredType = type_named tree c.args.first in
    let b : DeclaredType = type_named tree c.args.second in
    let u : DeclaredType = type_named tree c.loop-step.here in
    let w : DeclaredType = type_named tree c.loop-step.there in
    let differs : u ≡ w → ⊥ = λ e. c.is_same.ensures.apart c.if-is_same.false
    (one_type tree c.most_steps-step-end.ensures.legal c.loop-step.here c.loop-step.there c.loop-step.invariant.first_known c.loop-step.invariant.second_known e) in
    let none : NoneYet tree (c.loop-step.step + 1) a b = none_next tree c.loop-step.step a b u w c.loop-step.invariant.none_yet c.loop-step.invariant.first_reached c.loop-step.invariant.second_reached differs in
    rw c.from_residual.ensures (level_apart tree c.loop-step.step a b u c.requires.level none c.loop-step.invariant.first_reached (sym c.in_err-one.ensures.named))

pub returns-in_err-other : goal.returns-in_err-other
returns-in_err-other c =
    let tree : Tree = c.args.self.now in
    let a : DeclaredType = type_named tree c.args.first in
    let b : DeclaredType = type_named tree c.args.second in
    let u : DeclaredType = type_named tree c.loop-step.here in
    let w : DeclaredType = type_named tree c.loop-step.there in
    let differs : u ≡ w → ⊥ = λ e. c.is_same.ensures.apart c.if-is_same.false
    (one_type tree c.most_steps-step-end.ensures.legal c.loop-step.here c.loop-step.there c.loop-step.invariant.first_known c.loop-step.invariant.second_known e) in
    let none : NoneYet tree (c.loop-step.step + 1) a b = none_next tree c.loop-step.step a b u w c.loop-step.invariant.none_yet c.loop-step.invariant.first_reached c.loop-step.invariant.second_reached differs in
    rw c.from_residual-in_err-other.ensures (level_apart_second tree c.loop-step.step a b w c.requires.level none c.loop-step.invariant.second_reached (sym c.in_err-other.ensures.named))

pub loop-step-preserved : goal.loop-step-preserved
loop-step-preserved c =
    let tree : Tree = c.args.self.now in
    let a : DeclaredType = type_named tree c.args.first in
    let b : DeclaredType = type_named tree c.args.second in
    let u : DeclaredType = type_named tree c.loop-step.here in
    let w : DeclaredType = type_named tree c.loop-step.there in
    let differs : u ≡ w → ⊥ = λ e. c.is_same.ensures.apart c.if-is_same.false
    (one_type tree c.most_steps-step-end.ensures.legal c.loop-step.here c.loop-step.there c.loop-step.invariant.first_known c.loop-step.invariant.second_known e) in
    record {
      first_reached = next tree c.loop-step.step a u (type_named tree c.in_ok-one.one) c.loop-step.invariant.first_reached (sym c.in_ok-one.ensures.named);
      second_reached = next tree c.loop-step.step b w (type_named tree c.in_ok-other.other) c.loop-step.invariant.second_reached (sym c.in_ok-other.ensures.named);
      first_known = c.in_ok-one.ensures.known;
      second_known = c.in_ok-other.ensures.known;
      none_yet = none_next tree c.loop-step.step a b u w c.loop-step.invariant.none_yet c.loop-step.invariant.first_reached c.loop-step.invariant.second_reached differs;
    }

pub returns : goal.returns
returns c =
    let tree : Tree = c.args.self.now in
    λ above under over. too_far tree c.most_steps-step-end.ensures.legal c.loop-step.step c.most_steps-step-end.result (type_named tree c.args.first) (type_named tree c.loop-step.here) c.most_steps-step-end.ensures.enough c.loop-step-test.false c.loop-step.invariant.first_reached

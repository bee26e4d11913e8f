use Rattle.std.proofs.Common.{◌<◌, ◌≤◌, List, length, take, sym, subst, arith, ◌∙◌}
use Rattle.std.proofs.lemmas.List.{take_all}
use Rattle.std.proofs.lemmas.Result.{err_from_is_err_and}
use Rattle.cil_model.specs.declared.trees.Tree.{Tree}
use Rattle.flow_rules.specs.StackTypes.{stack_types}
use Rattle.flow_rules.specs.declared.entries.StackEntry.{StackEntry}
use Rattle.verifier.specs.Rises.{stack_rises}
use Rattle.verifier.proofs.StackLaws.{apart_heights, merge_fails, merged_more, kept_more, merged_whole}
use Rattle.verifier.proofs.merging.merge_stacks.Goals as goal

pub returns-then-len-coming-clause-merged : goal.returns-then-len-coming-clause-merged
returns-then-len-coming-clause-merged c = apart_heights c.args.types.now c.args.known.now c.args.coming.now (λ e. c.if-len-coming.true (c.len.ensures ∙ e))

pub returns-in_err-merge-clause-merged : goal.returns-in_err-merge-clause-merged
returns-in_err-merge-clause-merged c =
    let p = err_from_is_err_and c.from_residual.result c.from_residual.ensures.1 in
    let inside : c.loop-index.index < length c.args.known.now = omega (arith, c.loop-index-test.true, c.len-index-end.ensures) in
    let within : c.loop-index.index < length c.args.coming.now = omega (arith, inside, c.len.ensures, c.if-len-coming.false) in
    rw (p.1, p.2) (merge_fails c.args.types.now c.args.known.now c.args.coming.now c.loop-index.index c.entry.result _ c.in_err-merge.field-0.0 c.entry.ensures within c.in_err-merge.ensures.merged)

pub loop-index-preserved : goal.loop-index-preserved
loop-index-preserved c =
    let tree : Tree = c.args.types.now in
    let inside : c.loop-index.index < length c.args.known.now = omega (arith, c.loop-index-test.true, c.len-index-end.ensures) in
    let within : c.loop-index.index < length c.args.coming.now = omega (arith, inside, c.len.ensures, c.if-len-coming.false) in
    let kept = kept_more tree c.loop-index.is_higher c.in_ok-merge.merge.is_higher c.either-is_higher.result c.loop-index.stack.items c.append.new.entries.items c.args.known.now c.in_ok-merge.merge.entry c.entry.result c.loop-index.index
    c.entry.ensures (c.loop-index.invariant.same, c.loop-index.invariant.higher) (c.in_ok-merge.ensures.same, c.in_ok-merge.ensures.higher) c.either-is_higher.ensures c.in_ok-append.ensures.appended in
    record {
      merged = merged_more tree c.args.known.now c.args.coming.now c.loop-index.stack.items c.append.new.entries.items c.loop-index.index c.entry.result _ c.in_ok-merge.merge.entry c.entry.ensures within c.loop-index.invariant.merged
          c.in_ok-merge.ensures.merged c.in_ok-append.ensures.appended;
      same = kept.0;
      higher = kept.1;
    }

pub returns-clause-merged : goal.returns-clause-merged
returns-clause-merged c =
    let past : length c.args.known.now ≤ c.loop-index.index = omega (arith, c.loop-index-test.false, c.len-index-end.ensures) in
    let beyond : length c.args.coming.now ≤ c.loop-index.index = omega (arith, past, c.len.ensures, c.if-len-coming.false) in
    merged_whole c.args.types.now c.args.known.now c.args.coming.now c.loop-index.stack.items c.new.result c.loop-index.index past beyond c.loop-index.invariant.merged c.new.ensures

pub returns-clause-same : goal.returns-clause-same
returns-clause-same c low =
    let past : length c.args.known.now ≤ c.loop-index.index = omega (arith, c.loop-index-test.false, c.len-index-end.ensures) in
    c.new.ensures ∙ c.loop-index.invariant.same low ∙ take_all c.loop-index.index c.args.known.now past

pub returns-clause-higher : goal.returns-clause-higher
returns-clause-higher c high =
    let tree : Tree = c.args.types.now in
    let past : length c.args.known.now ≤ c.loop-index.index = omega (arith, c.loop-index-test.false, c.len-index-end.ensures) in
    subst (λ (known : List StackEntry). stack_rises tree (stack_types tree c.new.result) < stack_rises tree (stack_types tree known)) (take_all c.loop-index.index c.args.known.now past)
    (subst (λ (merged : List StackEntry). stack_rises tree (stack_types tree merged) < stack_rises tree (stack_types tree (take c.loop-index.index c.args.known.now))) (sym c.new.ensures) (c.loop-index.invariant.higher high))

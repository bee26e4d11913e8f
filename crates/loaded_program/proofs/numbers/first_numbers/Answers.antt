use Rattle.std.proofs.Common.{◌≡◌, ◌+◌, List, ◌++◌, length, map, drop, refl, ap, sym, subst, ◌∙◌}
use Rattle.resolved_code.specs.declared.classes.ResolvedClass.{ResolvedClass}
use Rattle.resolved_code.specs.declared.classes.ResolvedMethod.{ResolvedMethod}
use Rattle.loaded_program.specs.ResolvedKinds.{running_counts}
use Rattle.loaded_program.proofs.CountLaws.{running_more, counted_more, counted_fit, running_all}
use Rattle.loaded_program.proofs.numbers.first_numbers.Goals as goal

pub loop-class-init : goal.loop-class-init
loop-class-init c = record { has_id = ap (λ ns. ns ++ running_counts 0 (map (λ (r : ResolvedClass). length r.methods) c.args.classes.now)) c.in_ok-first.ensures.items; counted = refl }

pub number_after-next-requires : goal.number_after-next-requires
number_after-next-requires c =
    let following = ap (λ (ms : List ResolvedMethod). c.loop-class.next + length ms) c.as_slice.ensures in
    counted_fit (λ (r : ResolvedClass). length r.methods) c.args.classes.now c.loop-class.class-index c.class-item.result c.loop-class.next _ c.loop-class-test.true c.class-item.is following c.loop-class.invariant.counted c.requires

pub loop-class-preserved : goal.loop-class-preserved
loop-class-preserved c =
    let rs = c.args.classes.now in
    let following : c.number_after-next.result ≡ c.loop-class.next + length c.class-item.result.methods = c.number_after-next.ensures ∙ ap (λ (ms : List ResolvedMethod). c.loop-class.next + length ms) c.as_slice.ensures in
    record {
      has_id = subst (λ ns. ns ++ running_counts c.number_after-next.result (map (λ (r : ResolvedClass). length r.methods) (drop (c.loop-class.class-index + 1) rs)) ≡ running_counts 0 (map (λ (r : ResolvedClass). length r.methods) rs)) (sym c.in_ok-push.ensures.items)
          (running_more (λ (r : ResolvedClass). length r.methods) rs c.loop-class.class-index c.class-item.result c.loop-class.next c.number_after-next.result c.loop-class-test.true c.class-item.is following c.loop-class.first.items _ c.loop-class.invariant.has_id);
      counted = counted_more (λ (r : ResolvedClass). length r.methods) rs c.loop-class.class-index c.class-item.result c.loop-class.next c.number_after-next.result c.loop-class-test.true c.class-item.is following c.loop-class.invariant.counted;
    }

pub returns : goal.returns
returns c = running_all (λ (r : ResolvedClass). length r.methods) c.args.classes.now c.loop-class.class-index c.loop-class.next c.loop-class.first.items _ c.loop-class-test.false c.loop-class.invariant.has_id

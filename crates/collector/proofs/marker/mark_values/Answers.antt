use Rattle.std.proofs.Common.{◌≡◌, ◌+◌, true, drop, get_or, pos, sym, ap, subst, ◌∙◌}
use Rattle.std.proofs.lemmas.List.{at_drop_more}
use Rattle.object_memory.specs.declared.values.Value.TheVariants.{Int32}
use Rattle.object_memory.specs.Objects.{Objects}
use Rattle.collector.specs.Conditions.{AreValuesInHeap}
use Rattle.collector.specs.MarkSteps.{with_all_marked}
use Rattle.collector.proofs.Marks.MarkSteps.{all_kept, open_kept}
use Rattle.collector.proofs.marker.mark_values.Goals as goal

pub loop-value-preserved : goal.loop-value-preserved
loop-value-preserved c =
    let o = c.loop-value.heap in
    let values = c.args.values.now in
    let before = c.loop-value.invariant in
    let value = get_or values c.loop-value.value-index (Int32 (pos 0)) in
    record {
      is_open = subst (λ (x : Objects). x.spaces.is_open ≡ true) (sym c.mark.ensures) (open_kept o value before.is_open);
      there = subst (λ (x : Objects). AreValuesInHeap x values) (sym c.mark.ensures) (all_kept o value values before.there);
      rest =
          ap (λ (x : Objects). with_all_marked x (drop (c.loop-value.value-index + 1) values)) c.mark.ensures
          ∙ sym (at_drop_more (with_all_marked o) values c.loop-value.value-index (Int32 (pos 0)) c.loop-value-test.true) ∙ before.rest;
    }

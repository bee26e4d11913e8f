use Rattle.std.proofs.Common.{◌≡◌, true, drop}
use Rattle.collector.specs.Conditions.{AreValuesInHeap}
use Rattle.collector.specs.MarkSteps.{with_all_marked}
use Rattle.collector.proofs.marker.mark_values.Given as goal

-- marking what is left, after what was marked, results in the marks of all
abbrev pub invariant-loop-value : goal.invariant-loop-value
invariant-loop-value l =
    record {
      is_open : l.heap.spaces.is_open ≡ true;
      there : AreValuesInHeap l.heap l.values;
      rest : with_all_marked l.heap (drop l.value-index l.values) ≡ with_all_marked l.fn.heap l.values;
    }

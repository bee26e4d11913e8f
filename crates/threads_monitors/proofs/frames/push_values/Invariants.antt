use Rattle.std.proofs.Common.{◌≡◌, ◌+◌, ◌++◌, take, vec_len, vec_capacity}
use Rattle.threads_monitors.proofs.frames.push_values.Given as goal

abbrev pub invariant-loop-value : goal.invariant-loop-value
invariant-loop-value l = (l.values.items ≡ l.fn.values.items ++ take l.value-index l.more) × (vec_len l.values ≡ vec_len l.fn.values + l.value-index) × (vec_capacity l.values ≡ vec_capacity l.fn.values)

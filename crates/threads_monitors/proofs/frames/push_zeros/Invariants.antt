use Rattle.std.proofs.Common.{◌≡◌, ◌+◌, ◌++◌, take, map, vec_len, vec_capacity}
use Rattle.threads_monitors.specs.Frames.{zero_value}
use Rattle.threads_monitors.proofs.frames.push_zeros.Given as goal

abbrev pub invariant-loop-kind : goal.invariant-loop-kind
invariant-loop-kind l = (l.values.items ≡ l.fn.values.items ++ map zero_value (take l.kind-index l.kinds)) × (vec_len l.values ≡ vec_len l.fn.values + l.kind-index) × (vec_capacity l.values ≡ vec_capacity l.fn.values)

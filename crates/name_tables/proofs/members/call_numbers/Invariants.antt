use Rattle.std.proofs.Common.{◌≡◌, ℕ, map, take}
use Rattle.name_tables.specs.Methods.{call_of}
use Rattle.name_tables.specs.Sameness.{MethodIdentity, identity_of, call_identity_of}
use Rattle.name_tables.proofs.members.call_numbers.Given as goal

abbrev pub invariant-loop-index : goal.invariant-loop-index
invariant-loop-index l = (number : MethodIdentity → ℕ) → l.numbers ≡ map (λ m. number (identity_of m.now)) l.methods → l.keys.items ≡ map (λ m. call_of number (call_identity_of m.now)) (take l.index l.methods)

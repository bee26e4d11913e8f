use Rattle.std.proofs.Common.{◌≡◌, ℕ, map, take}
use Rattle.name_tables.specs.Entries.{declaration_in}
use Rattle.name_tables.specs.Methods.{call_of}
use Rattle.name_tables.specs.Sameness.{MethodIdentity, identity_of, call_identity_of}
use Rattle.name_tables.proofs.members.call_rows.Given as goal

abbrev pub invariant-loop-index : goal.invariant-loop-index
invariant-loop-index l = (number : MethodIdentity → ℕ) → map (λ r. r.items) l.numbers ≡ map (λ t. map (λ m. number (identity_of m)) (declaration_in t.class).methods) l.tables →
    map (λ r. r.items) l.rows.items ≡ map (λ t. map (λ m. call_of number (call_identity_of m)) (declaration_in t.class).methods) (take l.index l.tables)

use Rattle.std.proofs.Common.{◌≡◌, ℕ, map, take}
use Rattle.std.specs.Prelude.{filter}
use Rattle.name_tables.specs.Entries.{declaration_in}
use Rattle.name_tables.specs.Methods.{has_virtual}
use Rattle.name_tables.specs.Sameness.{MethodIdentity, identity_of}
use Rattle.name_tables.proofs.methods.virtual_numbers.Given as goal

abbrev pub invariant-loop-index : goal.invariant-loop-index
invariant-loop-index l = (number : MethodIdentity → ℕ) → l.numbers ≡ map (λ m. number (identity_of m)) (declaration_in l.table.class).methods →
    l.chosen.items ≡ map number (filter (has_virtual (declaration_in l.table.class)) (take l.index (map identity_of (declaration_in l.table.class).methods)))

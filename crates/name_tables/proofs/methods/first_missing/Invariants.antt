use Rattle.std.proofs.Common.{◌≡◌, ◌==◌, ◌<◌, ℕ, Some, is_some, drop}
use Rattle.std.specs.List.{list_all}
use Rattle.inheritance.specs.Lines.{Ends}
use Rattle.inheritance.specs.ScopedTables.{nearest_from}
use Rattle.name_tables.specs.KeyIds.{number_in}
use Rattle.name_tables.proofs.methods.first_missing.Given as goal

abbrev pub invariant-loop-index : goal.invariant-loop-index
invariant-loop-index l = record {
  rest :
      list_all (λ n. is_some (nearest_from l.overridable.inheritance.forest (number_in (λ (a b : ℕ). a == b) l.overridable.keys n) l.overridable.inheritance.forest.most (Some l.class))) (drop l.index l.numbers) ≡
      list_all (λ n. is_some (nearest_from l.overridable.inheritance.forest (number_in (λ (a b : ℕ). a == b) l.overridable.keys n) l.overridable.inheritance.forest.most (Some l.class))) l.numbers;
  ended : 0 < l.index → Ends l.overridable.inheritance.forest.bases.items l.overridable.inheritance.forest.most l.class;
}

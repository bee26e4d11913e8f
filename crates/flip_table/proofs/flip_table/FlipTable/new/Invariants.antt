use Rattle.std.proofs.Common.{◌≡◌, ◌≤◌, [], map, vec_len, vec_capacity}
use Rattle.std.specs.List.{range_with_len}
use Rattle.flip_table.specs.Plans.{plan_of}
use Rattle.flip_table.specs.Rule.{dealt_copier}
use Rattle.flip_table.specs.Tokens.{initial_seat}
use Rattle.flip_table.specs.declared.slot_table.View.TheVariants.{OfCopier}
use Rattle.flip_table.proofs.flip_table.FlipTable.new.Given as goal

abbrev pub invariant-loop-index : goal.invariant-loop-index
invariant-loop-index l = record {
  same_table : l.token.table_id ≡ l.words.shared.table_id;
  dealt : l.token.me ≡ (OfCopier (dealt_copier (plan_of l.plan) l.index), []);
  writers : l.writers.items ≡ map (initial_seat l.words.shared.table_id (plan_of l.plan)) (range_with_len 0 l.index);
  count : vec_len l.writers ≡ l.index;
  room : l.seats ≤ vec_capacity l.writers;
}

use Rattle.std.proofs.Common.{rules, ap, sym, ◌∙◌}
use Rattle.flip_table.proofs.Plays.{stores_copy}
use Rattle.flip_table.proofs.Tokens.{is_copier, knows_copier}
use Rattle.flip_table.proofs.flip_table.FlipTable.store_copy.Goals as goal

pub store-requires : goal.store-requires
store-requires c = (search rules, search rules, stores_copy _ _ _ c.args.slot _ _ _ _ c.copier.invariant.0 (search rules) (search rules) (search rules) (search rules) (search rules) (search rules))

pub invariant_of-copier : goal.invariant_of-copier
invariant_of-copier c = let reported = c.store.ensures.2 c.args.slot (search rules) in (is_copier _ _ reported, c.copier.invariant.1 ∙ sym (ap (λ p. p.stage) (knows_copier _ _ reported)))

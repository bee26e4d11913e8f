use Rattle.std.proofs.Common.{rules, ap, sym, ◌∙◌, ◌<◌, subst}
use Rattle.flip_table.proofs.Plays.{stores_alone}
use Rattle.flip_table.proofs.Tokens.{is_writer, knows_writer}
use Rattle.flip_table.proofs.flip_table.FlipTable.store_alone.Goals as goal

pub store-requires : goal.store-requires
store-requires c = (search rules, search rules, stores_alone _ _ _ c.args.slot c.args.value _ _ _ _ c.writer.invariant.0 (search rules) c.forward.ensures (search rules) (search rules) (search rules) (search rules) (search rules) (search rules))

pub invariant_of-writer : goal.invariant_of-writer
invariant_of-writer c = let reported = c.store.ensures.2 c.args.slot c.args.value (search rules) c.forward.ensures in let knows = knows_writer _ _ reported in (
  is_writer _ _ reported,
  c.writer.invariant.1 ∙ sym (ap (λ q. q.index) knows),
  c.writer.invariant.2 ∙ sym (ap (λ q. q.taken_up) knows),
  c.writer.invariant.3 ∙ sym (ap (λ q. q.polled) knows),
  subst (λ q. q.index < q.plan.seats) (sym knows) c.writer.invariant.4,
)

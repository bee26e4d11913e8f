use Rattle.std.proofs.Common.{Global, Vec, ℕ, ◌∙◌, ap, map}
use Rattle.name_tables.proofs.Lists.{at_end, one_more_row}
use Rattle.event_trace.proofs.Names.{Class, method_indices}
use Rattle.event_trace.proofs.method_positions.source_indices.Goals as goal

pub loop-class-init : goal.loop-class-init
loop-class-init c = ap (map (λ (row : Vec ℕ Global). row.items)) c.in_ok-rows.ensures.items

pub loop-class-preserved : goal.loop-class-preserved
loop-class-preserved c =
    one_more_row (λ (row : Vec ℕ Global). row.items) (λ (k : Class). method_indices 0 k.members) c.loop-class.rows.items c.push.new.self.items c.args.classes.now c.loop-class.class-index _ c.class-item.result
    c.loop-class-test.true c.class-item.is c.loop-class.invariant c.in_ok-push.ensures.items (c.in_ok-method_indices.ensures ∙ ap (method_indices 0) c.as_slice.ensures)

pub returns : goal.returns
returns c = at_end (map (λ (k : Class). method_indices 0 k.members)) c.args.classes.now c.loop-class.class-index c.loop-class-test.false c.loop-class.invariant

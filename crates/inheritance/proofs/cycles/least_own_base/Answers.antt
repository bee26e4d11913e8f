use Rattle.std.proofs.Common.{sym, ap, position, is_some, ◌∙◌}
use Rattle.inheritance.proofs.CyclesFound.{least_marked}
use Rattle.inheritance.proofs.cycles.least_own_base.Goals as goal

pub returns : goal.returns
returns c =
    let marks = c.in_ok-cycles.cycles.marks.items in
    least_marked c.args.bases.now marks c.in_ok-cycles.ensures.marks c.first_marked.result (sym (c.first_marked.ensures ∙ ap (position is_some) c.as_slice.ensures.value))

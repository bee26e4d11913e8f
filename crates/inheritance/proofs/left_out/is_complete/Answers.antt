use Rattle.std.proofs.Common.{arith}
use Rattle.inheritance.specs.ScopedTables.{IsLeftOut}
use Rattle.inheritance.proofs.LineLaws.{kind_never_ends}
use Rattle.inheritance.proofs.left_out.is_complete.Goals as goal

pub returns : goal.returns
returns c = λ complete class left.
    let bases = c.args.forest.now.bases.items in
    let entries = c.args.scoped_table.now.entries.items in
    kind_never_ends bases (IsLeftOut bases entries) (λ n h. let within = h.within in c.loop-class.invariant n (omega arith) h) c.args.forest.now.most class left

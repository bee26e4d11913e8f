use Rattle.std.proofs.Common.{◌≡◌, List, [], Option, None, replicate, rules, sym, subst}
use Rattle.inheritance.specs.declared.changes.Change.{Change}
use Rattle.inheritance.specs.declared.scoped_tables.Entry.{Entry}
use Rattle.inheritance.specs.ScopedTables.{IsCorrectBefore}
use Rattle.inheritance.proofs.ScopedTableLaws.{right_at_start}
use Rattle.inheritance.proofs.scoped_tables.ScopedTable.new.Goals as goal

pub returns : goal.returns
returns c =
    let f = c.args.forest.now in
    let empty : c.in_ok-vec.field-0.items ≡ replicate c.len.result None = c.in_ok-vec.ensures.items_if_clones_equal (search rules) in
    subst (λ (rows : List (List Change)). IsCorrectBefore f 0 rows c.in_ok-vec.field-0.items None) (sym c.in_ok-empty_rows.ensures) (
    subst (λ (entries : List (Option Entry)). IsCorrectBefore f 0 (replicate f.keys []) entries None) (sym empty) (right_at_start f c.len.result))

use Rattle.std.proofs.Common.{map, sym, ◌∙◌}
use Rattle.std.proofs.lemmas.List.{length-map}
use Rattle.inheritance.proofs.ScopedTableLaws.{entered_ends}
use Rattle.inheritance.proofs.inheritance.search.Goals as goal

pub returns : goal.returns
returns c =
    let f = c.args.forest.now in
    let r = c.loop-time.invariant in
    record {
      width = sym (length-map c.loop-time.scoped_table.changes.items (λ v. v.items)) ∙ r.width;
      ordered = r.up_to.ordered;
      ended = λ class entry e. entered_ends f (map (λ v. v.items) c.loop-time.scoped_table.changes.items) class entry (r.entries_are_entered class entry e);
      lookup_is_correct = λ class entry e key h. let was = r.entries_are_entered class entry e in was.lookup_is_correct key f.most h was.length_is_bounded;
    }

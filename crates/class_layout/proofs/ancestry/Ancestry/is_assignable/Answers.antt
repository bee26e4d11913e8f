use Rattle.std.proofs.Common.{map, ◌∙◌}
use Rattle.class_layout.proofs.AncestorLaws.{marked_of}
use Rattle.class_layout.proofs.ancestry.Ancestry.is_assignable.Goals as goal

pub returns-in-OfClasses : goal.returns-in-OfClasses
returns-in-OfClasses c = λ tree is a b h k.
    let found = c.in-OfClasses.ensures tree a b h k in
    (rw (c.new.ensures, c.new-in-OfClasses.ensures) at c.is_class_assignable.ensures) ∙ marked_of tree (map (λ row. row.items) c.args.self.now.rows.items) c.in-OfClasses.from c.in-OfClasses.to found.0 found.1 is.rows found.2 found.3 ∙ found.4

use Rattle.std.proofs.Common.{◌∷◌, [], map, ap, ◌∙◌, arith}
use Rattle.std.proofs.lemmas.List.{map-append}
use Rattle.class_layout.specs.ByClass.{assignable_row}
use Rattle.class_layout.proofs.ResolvedLaws.{class_pushed, classes_pushed}
use Rattle.class_layout.proofs.ancestry.rows.Goals as goal

pub loop-class-preserved : goal.loop-class-preserved
loop-class-preserved c =
    let t = c.args.classes.now.program.now in
    class_pushed t (assignable_row t) c.loop-class.class (map (λ row. row.items) c.loop-class.rows.items) (map (λ row. row.items) c.push.new.self.items) c.in_ok-row.field-0.items (omega arith) c.loop-class.invariant (rw c.new.ensures at c.in_ok-row.ensures)
    (ap (map (λ row. row.items)) c.in_ok-push.ensures.items ∙ map-append (λ row. row.items) c.loop-class.rows.items (c.in_ok-row.field-0 ∷ []))

pub returns : goal.returns
returns c =
    let t = c.args.classes.now.program.now in
    classes_pushed t (assignable_row t) c.loop-class.class (map (λ row. row.items) c.loop-class.rows.items) (omega arith) c.loop-class.invariant

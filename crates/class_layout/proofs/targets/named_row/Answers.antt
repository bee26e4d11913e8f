use Rattle.std.proofs.Common.{slice_get, ap, ◌∙◌, arith}
use Rattle.name_tables.specs.Numbers.{declarations}
use Rattle.class_layout.specs.Targets.{target_number}
use Rattle.class_layout.proofs.ResolvedLaws.{class_pushed, classes_pushed}
use Rattle.class_layout.proofs.targets.named_row.Goals as goal

pub loop-object-preserved : goal.loop-object-preserved
loop-object-preserved c = λ k e has_id there.
    let t = c.args.methods.now.classes.now.program.now in
    class_pushed t (target_number t e.0 k) c.loop-object.object c.loop-object.row.items c.push.new.self.items c.target_number.result (omega arith) (c.loop-object.invariant k e has_id there)
    (λ d object_there. c.target_number.ensures k e d has_id there (ap (slice_get (declarations t)) c.new.ensures ∙ object_there)) c.in_ok-push.ensures.items

pub returns : goal.returns
returns c = λ k e has_id there.
    let t = c.args.methods.now.classes.now.program.now in
    classes_pushed t (target_number t e.0 k) c.loop-object.object c.loop-object.row.items (omega arith) (c.loop-object.invariant k e has_id there)

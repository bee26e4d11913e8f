use Rattle.std.proofs.Common.{◌≡◌, arith, rules, refl, sym, ap, subst, ◌∙◌, get_or, take, length, vec_len}
use Rattle.std.proofs.lemmas.List.{get_or_default}
use Rattle.class_layout.proofs.Marks.{AreMarks, fresh_marks, marked_more, marked_past, all_marked}
use Rattle.class_layout.proofs.ancestry.marks.Goals.{then-number-len, else-number-len}
use Rattle.class_layout.proofs.ancestry.marks.Goals as goal

pub loop-class-init : goal.loop-class-init
loop-class-init c = fresh_marks c.in_ok-marks.marks.items c.args.count (c.in_ok-marks.ensures.items_if_clones_equal (search rules))

pub loop-class-preserved : goal.loop-class-preserved
loop-class-preserved c =
    let n = c.number-number.result in
    let same : n ≡ get_or c.args.classes.now c.loop-class.class-index 0 = c.number-number.ensures ∙ c.class-item.is ∙ get_or_default c.args.classes.now c.loop-class.class-index c.class-item.result 0 c.loop-class-test.true in
    let fits : vec_len c.loop-class.marks ≡ length c.loop-class.marks.items = search rules in
    let long : c.len.result ≡ c.args.count = c.len.ensures ∙ fits ∙ c.loop-class.invariant.0 in
    elim c.if-number-len.branch [
      | then-number-len w ↦ marked_more c.loop-class.marks.items c.args.count c.args.classes.now c.loop-class.class-index n (omega arith) same (omega (arith, long, w.if-number-len.true)) c.loop-class.invariant c.if-number-len.marks.items (ap (λ v. v.items) w.marks-is)
      | else-number-len w ↦ marked_past c.if-number-len.marks.items c.args.count c.args.classes.now c.loop-class.class-index n (omega arith) same (omega (arith, long, w.if-number-len.false)) (subst (λ v. AreMarks v.items c.args.count (take c.loop-class.class-index c.args.classes.now)) (sym w.marks-is) c.loop-class.invariant)
    ]

pub returns : goal.returns
returns c = all_marked c.loop-class.marks.items c.args.count c.args.classes.now c.loop-class.class-index c.loop-class-test.false c.loop-class.auto.class-index-end c.loop-class.invariant

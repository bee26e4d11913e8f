use Rattle.std.proofs.Common.{rules, ◌≡◌, length, sym, subst, ◌∙◌, arith}
use Rattle.inheritance.specs.Cycles.{HasWalked}
use Rattle.inheritance.proofs.WrittenLists.{written_whole}
use Rattle.inheritance.proofs.CyclesFound.{HaveWalked, none_walked, met_none, met_one, met_some, none_met, none_round, all_marked}
use Rattle.inheritance.proofs.cycles.Cycles.new.Goals as goal
use Rattle.inheritance.proofs.cycles.Cycles.new.Goals.{in-Some+in_ok-push, in_default}

pub loop-start-init : goal.loop-start-init
loop-start-init c =
    rw (c.in_ok-walks.ensures.items_if_clones_equal (search rules), c.in_ok-marks.ensures.items_if_clones_equal (search rules), c.new-classes.ensures.items)
    (none_walked c.args.bases.now, none_met c.args.bases.now)

pub loop-start-preserved : goal.loop-start-preserved
loop-start-preserved c =
    let bases = c.args.bases.now in
    let l = c.loop-start in
    let is = l.invariant.0 in
    let after = c.met_again.new.walks in
    let walked = subst (λ old. HasWalked bases old l.start l.start after c.met_again.result) c.as_mut_slice.ensures.value c.met_again.ensures in
    let width : l.walks.len ≡ length after = l.walks.ok.0 ∙ sym walked.width in
    rw (written_whole l.walks.len after l.walks.items width) (elim c.match-met_again.branch [
      | in-Some+in_ok-push w ↦ (
          let marks = w.met_again-in-Some.new.walks in
          let round = subst (λ old. HasWalked bases old w.in-Some.class l.start marks w.met_again-in-Some.result) w.as_mut_slice-in-Some.ensures.value w.met_again-in-Some.ensures in
          let width : l.marks.len ≡ length marks = l.marks.ok.0 ∙ sym round.width in
          rw (w.marks-is, w.classes-is, written_whole l.marks.len marks l.marks.items width, w.in_ok-push.ensures.items) (
            met_one bases l.walks.items l.marks.items l.start is c.loop-start-test.true after c.met_again.result walked w.in-Some.class marks w.met_again-in-Some.result round w.in-Some.is,
            met_some l.classes.items w.in-Some.class marks,
          )
          )
      | in_default w ↦ rw (w.marks-is, w.classes-is) (
        met_none bases l.walks.items l.marks.items l.start is c.loop-start-test.true after c.met_again.result walked w.in_default.is,
        l.invariant.1,
      )
    ])

pub returns-clause-marks : goal.returns-clause-marks
returns-clause-marks c =
    let l = c.loop-start in
    let all : l.start ≡ length c.args.bases.now = omega (arith, c.loop-start-test.false, l.auto.start-end) in
    all_marked c.args.bases.now l.walks.items l.marks.items (subst (HaveWalked c.args.bases.now l.walks.items l.marks.items) all l.invariant.0)

pub returns-clause-classes : goal.returns-clause-classes
returns-clause-classes c =
    let l = c.loop-start in
    let all : l.start ≡ length c.args.bases.now = omega (arith, c.loop-start-test.false, l.auto.start-end) in
    none_round c.args.bases.now l.marks.items l.classes.items (all_marked c.args.bases.now l.walks.items l.marks.items (subst (HaveWalked c.args.bases.now l.walks.items l.marks.items) all l.invariant.0)) l.invariant.1

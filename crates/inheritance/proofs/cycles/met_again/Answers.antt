use Rattle.std.proofs.Common.{◌≡◌, inl, inr, Some, None, slice_set, sym, ap, subst, ◌∙◌, arith}
use Rattle.std.proofs.lemmas.List.{get_or_past}
use Rattle.std.proofs.lemmas.Option.{same_Some}
use Rattle.inheritance.specs.Cycles.{walk_at, HasWalked}
use Rattle.inheritance.proofs.WalkLaws.{none_of, none_unless, some_of, walk_on, walk_stops, walk_ended, walk_met, walk_joined}
use Rattle.inheritance.proofs.cycles.met_again.Goals as goal
use Rattle.inheritance.proofs.cycles.met_again.Goals.{then-loop-class-test+else-is_none, else-loop-class-test}

pub returns-in_err-class : goal.returns-in_err-class
returns-in_err-class c =
    let bases = c.args.bases.now in
    let marks = c.loop-class.walks in
    let class = c.loop-class.class in
    let none = none_of (walk_at marks class) c.is_none.result c.is_none.ensures c.if-is_none.true in
    let left = walk_stops bases c.args.walks.now c.args.first c.args.walk marks class c.loop-class.invariant none c.loop-class-test.true (sym c.entry_at.ensures ∙ c.in_err-class.was) in
    subst (HasWalked bases c.args.walks.now c.args.first c.args.walk (slice_set marks class (Some c.args.walk))) (sym c.from_residual.ensures) left

pub loop-class-preserved : goal.loop-class-preserved
loop-class-preserved c =
    let marks = c.loop-class.walks in
    let class = c.loop-class.class in
    let none = none_of (walk_at marks class) c.is_none.result c.is_none.ensures c.if-is_none.true in
    walk_on c.args.bases.now c.args.walks.now c.args.first c.args.walk marks class c.loop-class.invariant none c.loop-class-test.true c.in_ok-class.class (sym c.entry_at.ensures ∙ c.in_ok-class.was)

pub returns-in-Some : goal.returns-in-Some
returns-in-Some c =
    let old = c.args.walks.now in
    let marks = c.loop-class.walks in
    let class = c.loop-class.class in
    let inv = c.loop-class.invariant in
    let own : walk_at marks class ≡ Some c.args.walk = sym c.in-Some.ensures ∙ ap Some c.if-other-walk.true in
    let new = none_unless (walk_at old class) (λ w h. c.requires.fresh class (h ∙ ap Some (same_Some w c.args.walk (sym (inv.kept class w h) ∙ own)))) in
    walk_met c.args.bases.now old c.args.first c.args.walk marks class inv new (c.args.walk, own)

pub returns-in_default : goal.returns-in_default
returns-in_default c =
    let old = c.args.walks.now in
    let marks = c.loop-class.walks in
    let class = c.loop-class.class in
    let inv = c.loop-class.invariant in
    elim (inv.met_now class c.in-Some.other (sym c.in-Some.ensures)) [
      | inl h ↦ walk_joined c.args.bases.now old c.args.first c.args.walk marks class inv (c.in-Some.other, h)
      | inr n ↦ absurd (c.if-other-walk.false n.0.0)
    ]

pub returns-in_default-2 : goal.returns-in_default-2
returns-in_default-2 c =
    let bases = c.args.bases.now in
    let marks = c.loop-class.walks in
    let class = c.loop-class.class in
    let inv = c.loop-class.invariant in
    elim c.loop-class-test.branch [
      | then-loop-class-test+else-is_none w ↦ absurd (some_of (walk_at marks class) w.is_none.result w.is_none.ensures w.if-is_none.false (sym c.in_default.ensures))
      | else-loop-class-test w ↦
          walk_ended bases c.args.walks.now c.args.first c.args.walk marks class inv (omega (arith, w.loop-class-test.false)) (get_or_past bases class None (omega (arith, w.loop-class-test.false, inv.width, c.requires.width)))
    ]

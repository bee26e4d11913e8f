use Rattle.std.proofs.Common.{rules, ◌≡◌, ◌∙◌, length, sym, ap, arith, subst}
use Rattle.inheritance.specs.TopologicalOrder.{HasMet, MarksMore, is_listed_next}
use Rattle.inheritance.proofs.WrittenLists.{written_whole}
use Rattle.inheritance.proofs.TopologicalOrderFound.{HaveListed, none_walked, path_listed, path_dropped, all_listed}
use Rattle.inheritance.proofs.topological_order.classes_in_topological_order.Goals as goal
use Rattle.inheritance.proofs.topological_order.classes_in_topological_order.Goals.{then-is_listed_next+in_ok-list_back, else-is_listed_next}

pub loop-start-init : goal.loop-start-init
loop-start-init c = (
  rw (c.in_ok-met.ensures.items_if_clones_equal (search rules), c.in_ok-listed.ensures.items_if_clones_equal (search rules), c.new-classes.ensures.items) (none_walked c.args.bases.now),
  c.new-path.ensures.items,
)

pub loop-start-preserved : goal.loop-start-preserved
loop-start-preserved c =
    let bases = c.args.bases.now in
    let l = c.loop-start in
    let is = l.invariant.0 in
    let met = c.walk_up.new.met in
    let path = c.walk_up.new.path.items in
    let next = c.in_ok-next.next in
    let has = subst (λ old. HasMet bases old l.start met path next) c.as_mut_slice.ensures.value c.in_ok-next.ensures.met in
    let reported = c.is_listed_next.ensures ∙ ap (λ listed. is_listed_next listed next) c.as_slice.ensures.value in
    let width : l.met.len ≡ length met = l.met.ok.0 ∙ sym has.width in
    rw (written_whole l.met.len met l.met.items width) (elim c.if-is_listed_next.branch [
      | then-is_listed_next+in_ok-list_back w ↦ (
          let listed = w.list_back.new.listed in
          let more = subst (λ old. MarksMore old path listed) w.as_mut_slice-then-is_listed_next.ensures.value w.in_ok-list_back.ensures.listed in
          let width : l.listed.len ≡ length listed = l.listed.ok.0 ∙ sym more.width in
          rw (w.classes-is, w.path-is, w.listed-is, written_whole l.listed.len listed l.listed.items width, w.in_ok-list_back.ensures.classes)
          (path_listed bases l.met.items l.listed.items l.classes.items l.start is c.loop-start-test.true met path next has c.in_ok-next.ensures.stops listed more (sym reported ∙ w.if-is_listed_next.true), w.in_ok-list_back.ensures.empty)
          )
      | else-is_listed_next w ↦ rw (w.classes-is, w.path-is, w.listed-is)
          (path_dropped bases l.met.items l.listed.items l.classes.items l.start is c.loop-start-test.true met path next has c.in_ok-next.ensures.stops (sym reported ∙ w.if-is_listed_next.false), w.clear.ensures.items)
    ])

pub returns : goal.returns
returns c =
    let l = c.loop-start in
    let all : l.start ≡ length c.args.bases.now = omega (arith, c.loop-start-test.false, l.auto.start-end) in
    all_listed c.args.bases.now l.met.items l.listed.items l.classes.items (subst (HaveListed c.args.bases.now l.met.items l.listed.items l.classes.items) all l.invariant.0)

use Rattle.std.proofs.Common.{◌≡◌, true, ◌++◌, ◌∷◌, ◌-◌, ◌/◌, sym, ◌∙◌, ap, length, take, drop, slice_index_or, List, None}
use Rattle.cil_model.proofs.SameLaws.{both_second}
use Rattle.inheritance.specs.declared.changes.Change.{Change}
use Rattle.inheritance.specs.Changes.{is_ordered}
use Rattle.inheritance.proofs.ChangeLaws.{known_upper, known_lower, ordered_after, ordered_before, halves}
use Rattle.inheritance.proofs.changes.latest.Goals as goal

pub loop-earlier-preserved-then-change-time : goal.loop-earlier-preserved-then-change-time
loop-earlier-preserved-then-change-time c =
    let default : Change = record { time = 0; found = None } in
    let later = c.split_at.result.1.now in
    let middle = slice_index_or later 0 default in
    let others : List Change = take (length later - 1) (drop 1 later) in
    let whole : c.loop-earlier.rest.now ≡ c.split_at.result.0.now ++ middle ∷ others = halves c.loop-earlier.rest.now c.split_at.result.0.now later (length c.loop-earlier.rest.now / 2) default c.split_at.ensures.front c.split_at.ensures.back c.in-len1-up.len_at_least in
    let ordered : is_ordered (middle ∷ others) ≡ true = ordered_after c.split_at.result.0.now (middle ∷ others) (sym (ap is_ordered whole) ∙ c.loop-earlier.invariant.1) in
    (known_upper c.loop-earlier.found c.args.time c.loop-earlier.rest.now c.split_at.result.0.now others middle whole c.if-change-time.true ∙ c.loop-earlier.invariant.0, both_second _ _ ordered)

pub loop-earlier-preserved : goal.loop-earlier-preserved
loop-earlier-preserved c =
    let default : Change = record { time = 0; found = None } in
    let later = c.split_at.result.1.now in
    let middle = slice_index_or later 0 default in
    let others : List Change = take (length later - 1) (drop 1 later) in
    let whole : c.loop-earlier.rest.now ≡ c.split_at.result.0.now ++ middle ∷ others = halves c.loop-earlier.rest.now c.split_at.result.0.now later (length c.loop-earlier.rest.now / 2) default c.split_at.ensures.front c.split_at.ensures.back c.in-len1-up.len_at_least in (
      known_lower c.loop-earlier.found c.args.time c.loop-earlier.rest.now c.split_at.result.0.now others middle whole c.if-change-time.false c.loop-earlier.invariant.1 ∙ c.loop-earlier.invariant.0,
      ordered_before c.split_at.result.0.now (middle ∷ others) (sym (ap is_ordered whole) ∙ c.loop-earlier.invariant.1),
    )

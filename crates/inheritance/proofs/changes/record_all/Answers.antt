use Rattle.std.proofs.Common.{◌≡◌, ◌-◌, ◌+◌, ◌∙◌, ap, drop, get_or, map, arith}
use Rattle.std.proofs.Math.Seq.{drop-length}
use Rattle.std.proofs.lemmas.List.{drop_more}
use Rattle.inheritance.specs.Changes.{AddsChanges, found_from}
use Rattle.inheritance.proofs.ChangeLaws.{adds_none, adds_before}
use Rattle.inheritance.proofs.changes.record_all.Goals as goal

pub loop-index-init : goal.loop-index-init
loop-index-init c = (rw (drop-length c.args.keys.now) (adds_none _ _ c.args.source c.args.time), c.requires.up_to)

pub loop-index-preserved : goal.loop-index-preserved
loop-index-preserved c =
    let index = c.loop-index.index - 1 in
    let key = get_or c.args.keys.now index 0 in
    let next : index + 1 ≡ c.loop-index.index = omega (arith, c.loop-index-test.true) in
    let old = map (λ v. v.items) c.args.changes.now.items in
    let mid = map (λ v. v.items) c.loop-index.changes.items in
    let following : AddsChanges old mid (drop (index + 1) c.args.keys.now) (index + 1) c.args.source c.args.time = rw next c.loop-index.invariant.0 in
    let is = c.found_from-found.ensures ∙ ap (λ items. found_from (map (λ v. v.items) items) c.args.source key index) c.as_slice.ensures.value in
    let before = adds_before old mid (map (λ v. v.items) c.record.new.changes.items) key index (drop (index + 1) c.args.keys.now) c.args.source c.args.time c.found_from-found.result c.requires.earlier following is c.in_ok-record.ensures in
    (rw (drop_more c.args.keys.now index 0 (omega (arith, c.loop-index-test.true, c.loop-index.auto.index))) before, c.in_ok-record.ensures.up_to c.loop-index.invariant.1)

use Rattle.std.proofs.Common.{◌≡◌, ◌++◌, ◌∷◌, [], sym, ap, ◌∙◌, map, slice_set, arith}
use Rattle.std.proofs.lemmas.List.{map-set, length-map}
use Rattle.inheritance.proofs.ChangeLaws.{adds_change, adds_no_change, row_of}
use Rattle.inheritance.specs.Changes.{changes_of}
use Rattle.inheritance.proofs.changes.record.Goals as goal

pub returns-in_ok-push : goal.returns-in_ok-push
returns-in_ok-push c =
    let rows = map (λ v. v.items) c.args.changes.now.items in
    let row : changes_of rows c.args.key ≡ c.index_mut.result.now.items = row_of (λ v. v.items) c.args.changes.now.items c.args.key c.index_mut.result.now [] (omega (arith, c.if-key-len.true, c.len.ensures)) c.index_mut.ensures.value in
    adds_change rows c.args.key c.args.change (omega (arith, length-map c.args.changes.now.items (λ v. v.items), c.if-key-len.true, c.len.ensures)) _
    (map-set (λ v. v.items) c.args.changes.now.items c.args.key c.push.new.self ∙ ap (slice_set rows c.args.key) (c.in_ok-push.ensures.items ∙ ap (λ xs. xs ++ c.args.change ∷ []) (sym row)))

pub returns-else-key-len : goal.returns-else-key-len
returns-else-key-len c =
    adds_no_change (map (λ v. v.items) c.args.changes.now.items) c.args.key c.args.change (omega (arith, length-map c.args.changes.now.items (λ v. v.items), c.if-key-len.false, c.len.ensures))

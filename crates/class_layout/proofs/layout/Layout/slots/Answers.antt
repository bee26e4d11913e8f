use Rattle.std.proofs.Common.{◌≡◌, [], map, length, slice_get, unwrap_or, ap, ◌∙◌}
use Rattle.class_layout.specs.Kinds.{slot_kinds}
use Rattle.class_layout.proofs.AncestorLaws.{answer_of}
use Rattle.class_layout.proofs.KindLaws.{slots_counted}
use Rattle.class_layout.proofs.layout.Layout.slots.Goals as goal

pub returns : goal.returns
returns c = λ tree is name named.
    let row : c.row_at.result.now ≡ slot_kinds tree name =
    c.row_at.ensures ∙ ap (λ rows. unwrap_or (slice_get (map (λ row. row.items) rows) c.args.class) []) c.as_slice.ensures.value ∙ answer_of tree (slot_kinds tree) (map (λ row. row.items) c.args.self.now.kinds.items) c.args.class name [] is.kinds named in
    ap length row ∙ slots_counted tree name

use Rattle.std.proofs.Common.{[], List, map, slice_get, unwrap_or, false, ap, ◌∙◌}
use Rattle.std.specs.Option.{option_map_or}
use Rattle.class_layout.specs.Kinds.{holds_reference}
use Rattle.class_layout.specs.declared.kinds.SlotKind.{SlotKind}
use Rattle.class_layout.proofs.KindLaws.{reference_by_id}
use Rattle.class_layout.proofs.layout.Layout.is_reference.Goals as goal

pub returns : goal.returns
returns c = λ tree is.
    let rows = map (λ row. row.items) c.args.self.now.kinds.items in
    c.is_reference_at.ensures
    ∙ ap (λ (kinds : List SlotKind). option_map_or holds_reference (slice_get kinds c.args.slot) false) (c.row_at.ensures ∙ ap (λ all. unwrap_or (slice_get (map (λ row. row.items) all) c.args.class) []) c.as_slice.ensures.value)
    ∙ reference_by_id tree rows c.args.class c.args.slot is.kinds

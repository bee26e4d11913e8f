use Rattle.std.proofs.Common.{[], map, slice_get, unwrap_or, option_map, option_and_then, ap, ◌∙◌}
use Rattle.name_tables.proofs.Lists.{map_of_map}
use Rattle.class_layout.specs.Targets.{targets_of, target_in}
use Rattle.class_layout.proofs.TargetLaws.{target_method, target_found}
use Rattle.class_layout.proofs.layout.Layout.target.Goals as goal

pub returns : goal.returns
returns c = λ tree is owner object m named at.
    let rows = c.args.self.now.targets.items in
    ap (option_map (target_method tree)) (c.target_at.ensures ∙
    ap (λ items. option_and_then (target_in c.args.class c.args.method) (option_map targets_of (slice_get (unwrap_or (slice_get (map (λ row. row.items) items) c.args.method.class) []) c.args.method.index))) c.as_slice.ensures.value) ∙
    target_found tree is.legal (map (λ row. row.items) rows) c.args.class c.args.method owner object m (map_of_map (λ row. row.items) (map targets_of) rows ∙ is.targets) named at

use Rattle.std.proofs.Common.{◌≡◌, map, take}
use Rattle.std.specs.List.{filter_map}
use Rattle.cil_model.specs.Declarations.{as_field}
use Rattle.name_tables.proofs.classes.field_members.Given as goal

abbrev pub invariant-loop-member : goal.invariant-loop-member
invariant-loop-member l = map (λ f. f.now) l.fields.items ≡ filter_map as_field (take l.member-index l.member-items)

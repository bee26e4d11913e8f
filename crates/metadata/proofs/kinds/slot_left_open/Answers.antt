use Rattle.std.proofs.Common.{◌≡◌, ℕ, List, IfOk, Some, is_some, subst, ◌∙◌}
use Rattle.std.specs.List.{list_any}
use Rattle.name_tables.specs.Methods.{line_of}
use Rattle.resolved_code.specs.VirtualSlots.{class_has_abstract_slot}
use Rattle.metadata.proofs.kinds.slot_left_open.Goals as goal

pub returns : goal.returns
returns c =
    let t = c.args.slots.now.methods.now.names.now.classes.tree.now in
    let line : c.as_slice.result.now ≡ line_of t (Some c.args.class) = c.as_slice.ensures.value ∙ c.in_ok-line.ensures in
    subst (λ (ns : List ℕ). IfOk c.open_along.result (λ found. is_some found ≡ list_any (class_has_abstract_slot t ns) ns)) line c.open_along.ensures

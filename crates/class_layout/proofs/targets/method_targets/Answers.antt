use Rattle.std.proofs.Common.{Bool, Some, None, if◌then◌else◌, sym, ap, ◌∙◌}
use Rattle.name_tables.specs.Sameness.{identity_of}
use Rattle.class_layout.specs.ByClass.{by_class}
use Rattle.class_layout.specs.Targets.{target_number}
use Rattle.class_layout.proofs.SlotUseLaws.{is_virtual_by}
use Rattle.class_layout.proofs.targets.method_targets.Goals as goal

pub returns-then-not-is_virtual : goal.returns-then-not-is_virtual
returns-then-not-is_virtual c = λ e m there is.
    let t = c.args.classes.now.program.now in
    let plain = sym (is_virtual_by t m.kind c.args.method.now.kind is.kind) ∙ sym c.is_virtual.ensures ∙ c.if-not-is_virtual.true in
    ap (λ (b : Bool). if b then Some (by_class t (target_number t e.0 (identity_of m))) else None) (sym plain)

pub returns : goal.returns
returns c = λ e m there is.
    let t = c.args.classes.now.program.now in
    let virtual = sym (is_virtual_by t m.kind c.args.method.now.kind is.kind) ∙ sym c.is_virtual.ensures ∙ c.if-not-is_virtual.false in
    ap Some (c.in_ok-row.ensures e m there is) ∙ ap (λ (b : Bool). if b then Some (by_class t (target_number t e.0 (identity_of m))) else None) (sym virtual)

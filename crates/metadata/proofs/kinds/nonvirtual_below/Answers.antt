use Rattle.std.proofs.Common.{◌≡◌, true, false, sym, ap, ◌∙◌}
use Rattle.std.specs.Prelude.{filter_map}
use Rattle.cil_model.specs.Declarations.{source_name}
use Rattle.cil_model.specs.Chains.{base_of, chain_within, longest_chain, nearest, method_declared, is_virtual, is_new_slot_method}
use Rattle.cil_model.specs.Legality.{is_found_not_virtual}
use Rattle.name_tables.specs.Methods.{line_of}
use Rattle.name_tables.specs.Numbers.{class_number}
use Rattle.name_tables.specs.Sameness.{identity_of}
use Rattle.name_tables.proofs.MemberLaws.{line_is_chain}
use Rattle.resolved_code.specs.VirtualSlots.{concrete_by_id}
use Rattle.resolved_code.proofs.Numbers.Slots.{nearest_plain}
use Rattle.resolved_code.proofs.ListLaws.Tests.{third_decides}
use Rattle.metadata.proofs.kinds.nonvirtual_below.Goals as goal

pub returns : goal.returns
returns c =
    let t = c.args.methods.now.names.now.classes.tree.now in
    let m = c.args.method.now in
    let at = base_of t (source_name c.args.class.now) in
    let base = chain_within t (longest_chain t) at in
    let v : is_virtual m.kind ≡ true = sym c.is_virtual.ensures ∙ c.if-not-is_virtual.false in
    let s : is_new_slot_method m.kind ≡ false = sym c.is_new_slot_method.ensures ∙ c.if-is_new_slot_method.false in
    let line : line_of t c.base_id.result ≡ filter_map (class_number t) base = ap (line_of t) c.base_id.ensures ∙ line_is_chain t (longest_chain t) at in
    let rule = c.nonvirtual_base.ensures ∙ ap (λ k. concrete_by_id t k (line_of t c.base_id.result)) c.new-key.ensures ∙ ap (concrete_by_id t (identity_of m)) line ∙ sym (nearest_plain t (identity_of m) base) in
    rule ∙ sym (third_decides (is_virtual m.kind) (is_new_slot_method m.kind) (is_found_not_virtual (nearest (method_declared t m.name m.signature) base)) v s)

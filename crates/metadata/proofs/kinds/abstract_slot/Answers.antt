use Rattle.std.proofs.Common.{◌≡◌, List, [], ℕ, Some, sym, ap, ◌∙◌}
use Rattle.std.specs.List.{list_any}
use Rattle.cil_model.specs.Chains.{longest_chain}
use Rattle.cil_model.specs.Legality.{has_abstract_slot}
use Rattle.name_tables.specs.Keys.{class_of_key}
use Rattle.name_tables.specs.Methods.{line_of}
use Rattle.name_tables.specs.Numbers.{chain_numbers}
use Rattle.name_tables.proofs.NumberLaws.{numbers_of_unknown}
use Rattle.name_tables.proofs.MemberLaws.{line_of_class}
use Rattle.resolved_code.specs.VirtualSlots.{class_has_abstract_slot}
use Rattle.resolved_code.proofs.ListLaws.Repeats.{if_ok_then}
use Rattle.resolved_code.proofs.Numbers.Slots.{abstract_slot}
use Rattle.metadata.proofs.OpenLaws.{none_left_open}
use Rattle.metadata.proofs.kinds.abstract_slot.Goals as goal

pub returns-in_default : goal.returns-in_default
returns-in_default c =
    let t = c.args.slots.now.methods.now.names.now.classes.tree.now in
    let k = class_of_key c.args.class in
    let none : chain_numbers t k ≡ [] = numbers_of_unknown t (longest_chain t) k (sym c.id.ensures ∙ c.in_default.is) in
    sym (sym (abstract_slot t k) ∙ ap (λ ns. list_any (class_has_abstract_slot t ns) ns) none)

pub returns-then-is_decided : goal.returns-then-is_decided
returns-then-is_decided c =
    let t = c.args.slots.now.methods.now.names.now.classes.tree.now in
    let k = class_of_key c.args.class in
    let ns = line_of t (Some c.in-Some.number) in
    let same : ns ≡ chain_numbers t k = line_of_class t k c.in-Some.number (sym c.id.ensures ∙ c.in-Some.is) in
    sym (sym (abstract_slot t k) ∙ ap (λ (xs : List ℕ). list_any (class_has_abstract_slot t xs) xs) (sym same) ∙ none_left_open t ns ns (c.is_decided.ensures c.if-is_decided.true))

pub returns : goal.returns
returns c =
    let t = c.args.slots.now.methods.now.names.now.classes.tree.now in
    let k = class_of_key c.args.class in
    let same : list_any (class_has_abstract_slot t (line_of t (Some c.in-Some.number))) (line_of t (Some c.in-Some.number)) ≡ has_abstract_slot t k =
    ap (λ (xs : List ℕ). list_any (class_has_abstract_slot t xs) xs) (line_of_class t k c.in-Some.number (sym c.id.ensures ∙ c.in-Some.is)) ∙ abstract_slot t k in
    if_ok_then c.slot_left_open.result _ _ (λ found e. e ∙ same) c.slot_left_open.ensures

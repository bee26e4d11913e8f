use Rattle.std.proofs.Common.{◌≡◌, false, List, Bor, map, Some, option_map, slice_get, sym, ap, ◌∙◌}
use Rattle.cil_model.specs.declared.trees.Method.{Method}
use Rattle.std.specs.List.{list_any}
use Rattle.std.proofs.lemmas.Bool.{not-true}
use Rattle.name_tables.specs.Entries.{entry_of}
use Rattle.name_tables.specs.Methods.{line_of}
use Rattle.name_tables.specs.Numbers.{declarations}
use Rattle.resolved_code.specs.VirtualSlots.{hides_abstract}
use Rattle.metadata.specs.OpenSlots.{hides_one}
use Rattle.metadata.proofs.MethodLaws.{stays_clear, clear_from}
use Rattle.metadata.proofs.open_slots.stays_clear.Goals as goal

pub returns-in-Some : goal.returns-in-Some
returns-in-Some c = λ e k.
    let t = c.args.methods.now.names.now.classes.tree.now in
    let declared = c.in-Some.declared.now in
    let entry : slice_get (declarations t) c.args.class ≡ Some (entry_of declared) = sym c.class.ensures ∙ ap (option_map (λ d. entry_of d.now)) c.in-Some.is in
    let clear : hides_abstract t k (line_of t c.base-base.result) ≡ false = clear_from t k c.args.may_hide.now c.requires c.base-base.result (c.is_clear.ensures c.if-not-is_clear.false) in
    let none : list_any (hides_one t (line_of t c.base-base.result)) (map (λ (m : Bor Method). m.now) c.as_slice.result.now) ≡ false = c.may_hide_one.ensures (not-true c.may_hide_one.result e) in
    let own = sym (ap (λ o. list_any (hides_one t (line_of t o)) (map (λ (m : Bor Method). m.now) declared.methods.items)) c.base-base.ensures) ∙
    ap (λ (ms : List (Bor Method)). list_any (hides_one t (line_of t c.base-base.result)) (map (λ m. m.now) ms)) (sym c.as_slice.ensures.value) ∙ none in
    stays_clear t k c.args.class (entry_of declared) entry (c.ends.ensures.0 c.if-not-ends.false) (sym (ap (λ o. hides_abstract t k (line_of t o)) c.base-base.ensures) ∙ clear) own

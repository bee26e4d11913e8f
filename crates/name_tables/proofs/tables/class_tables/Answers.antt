use Rattle.std.proofs.Common.{◌++◌, ◌∷◌, [], append_assoc, sym, ap, ◌∙◌, map, take, arith}
use Rattle.name_tables.specs.BuiltInTable.{built_in_entry}
use Rattle.name_tables.specs.Numbers.{source_entry}
use Rattle.name_tables.proofs.Lists.{map-take_more, at_end}
use Rattle.name_tables.specs.Entries.{entry_of}
use Rattle.name_tables.specs.declared.class_tables.ClassTable.{ClassTable}
use Rattle.std.proofs.lemmas.List.{append-nil}
use Rattle.name_tables.proofs.tables.class_tables.Goals as goal

pub loop-class-preserved : goal.loop-class-preserved
loop-class-preserved c =
    c.in_ok-add_table.ensures ∙ ap (λ e. map (λ (t : ClassTable). entry_of t.class) c.loop-class.classes.items ++ e ∷ []) c.in_ok-of_built_in.ensures ∙ ap (λ z. z ++ built_in_entry c.class-item.result ∷ []) c.loop-class.invariant ∙
    sym (map-take_more built_in_entry c.args.table.now c.loop-class.class-index c.class-item.result (omega arith) c.class-item.is)

pub loop-class-2-preserved : goal.loop-class-2-preserved
loop-class-2-preserved c =
    let own = map built_in_entry c.args.table.now in
    let before = map source_entry (take c.loop-class-2.class-index c.as_slice-class-items.result.now) in
    let one = source_entry c.class-item-in-loop-class-2.result ∷ [] in
    c.in_ok-add_table-2.ensures ∙ ap (λ e. map (λ (t : ClassTable). entry_of t.class) c.loop-class-2.classes.items ++ e ∷ []) c.in_ok-of_source.ensures ∙ ap (λ z. z ++ one) c.loop-class-2.invariant ∙ append_assoc own before one ∙
    ap (λ z. own ++ z) (sym (map-take_more source_entry c.as_slice-class-items.result.now c.loop-class-2.class-index c.class-item-in-loop-class-2.result (omega arith) c.class-item-in-loop-class-2.is))

pub loop-class-init : goal.loop-class-init
loop-class-init c = ap (map (λ (t : ClassTable). entry_of t.class)) c.new-classes.ensures.items

pub loop-class-2-init : goal.loop-class-2-init
loop-class-2-init c = at_end (map built_in_entry) c.args.table.now c.loop-class.class-index c.loop-class-test.false c.loop-class.invariant ∙ sym (append-nil (map built_in_entry c.args.table.now))

pub returns : goal.returns
returns c =
    at_end (λ classes. map built_in_entry c.args.table.now ++ map source_entry classes) c.as_slice-class-items.result.now c.loop-class-2.class-index c.loop-class-2-test.false c.loop-class-2.invariant ∙
    ap (λ classes. map built_in_entry c.args.table.now ++ map source_entry classes) c.as_slice-class-items.ensures

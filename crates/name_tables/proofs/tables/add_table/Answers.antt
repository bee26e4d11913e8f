use Rattle.std.proofs.Common.{◌++◌, ◌∷◌, [], ap, ◌∙◌, map}
use Rattle.std.proofs.lemmas.List.{map-append}
use Rattle.name_tables.specs.declared.class_tables.ClassTable.{ClassTable}
use Rattle.name_tables.specs.Entries.{entry_of}
use Rattle.name_tables.proofs.tables.add_table.Goals as goal

pub returns : goal.returns
returns c =
    let before = c.args.classes.now.items in
    ap (map (λ (t : ClassTable). entry_of t.class)) c.in_ok-push.ensures.items ∙ map-append (λ (t : ClassTable). entry_of t.class) before _ ∙
    ap (λ e. map (λ (t : ClassTable). entry_of t.class) before ++ e ∷ []) (ap entry_of c.in_ok-table.ensures)

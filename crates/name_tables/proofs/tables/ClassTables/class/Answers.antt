use Rattle.std.proofs.Common.{◌≡◌, length, refl, sym, ap, ◌∙◌, Some, option_map, slice_get}
use Rattle.std.proofs.lemmas.Option.{slice_get-map, slice_get_read}
use Rattle.name_tables.specs.declared.class_tables.ClassTable.{ClassTable}
use Rattle.name_tables.specs.Entries.{entry_of}
use Rattle.name_tables.specs.Numbers.{declarations}
use Rattle.name_tables.proofs.tables.ClassTables.class.Goals as goal

pub returns-in-Some : goal.returns-in-Some
returns-in-Some c = rw (← c.number.ensures) (
    let r : slice_get c.deref.result.now c.number.result ≡ Some c.in-Some.table.now = slice_get_read c.deref.result.now (length c.deref.result.now) c.number.result c.in-Some.table.now refl c.in-Some.ensures.lookup.3.0 c.in-Some.ensures.lookup.1 in
    let h : slice_get c.args.self.now.classes.items c.number.result ≡ Some c.in-Some.table.now = ap (λ xs. slice_get xs c.number.result) (sym c.deref.ensures.value) ∙ r in
    let k : slice_get (declarations c.args.self.now.tree.now) c.number.result ≡ Some (entry_of c.in-Some.table.now.class) =
    sym (ap (λ xs. slice_get xs c.number.result) c.args.self.now.classes_are) ∙ slice_get-map (λ (t : ClassTable). entry_of t.class) c.args.self.now.classes.items c.number.result ∙ ap (option_map (λ (t : ClassTable). entry_of t.class)) h in
    sym k
    )

use Rattle.std.proofs.Common.{[], length, map, get_or, sym, ap, ◌∙◌, arith}
use Rattle.std.proofs.lemmas.List.{get_or_past, length-map}
use Rattle.name_tables.proofs.Lists.{row_of}
use Rattle.name_tables.proofs.methods.MethodTables.key_numbers.Goals as goal

pub returns-in-None : goal.returns-in-None
returns-in-None c = rw (← c.number.ensures) (
    let declared = c.args.self.now.names.now.methods.inheritance.forest.declared.items in
    sym (get_or_past (map (λ r. r.items) declared) c.number.result [] (omega (arith, c.in-None.ensures.lookup.3, ap length c.deref.ensures.value, length-map declared (λ r. r.items))))
    )

pub returns-in-Some : goal.returns-in-Some
returns-in-Some c = rw (← c.number.ensures) (
    c.as_slice.ensures.value ∙ sym (row_of (λ r. r.items) c.deref.result.now c.number.result c.in-Some.numbers.now [] c.in-Some.ensures.lookup.3.0 c.in-Some.ensures.lookup.1) ∙
    ap (λ rows. get_or (map (λ r. r.items) rows) c.number.result []) c.deref.ensures.value
    )

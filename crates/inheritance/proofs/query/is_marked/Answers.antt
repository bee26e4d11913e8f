use Rattle.std.proofs.Common.{[], ◌∙◌, sym, ap, false, slice_index_or, arith}
use Rattle.inheritance.proofs.ChangeLaws.{item_of, row_of, row_past}
use Rattle.inheritance.proofs.query.is_marked.Goals as goal

pub returns-in-None : goal.returns-in-None
returns-in-None c =
    let declared = c.in-Some.declared in
    rw c.in-Some.is (sym (ap (λ row. slice_index_or row declared.index false) (row_past (λ v. v.items) c.args.marks.now declared.class [] c.in-None.ensures.lookup.3)))

pub returns-in-None-get : goal.returns-in-None-get
returns-in-None-get c =
    let declared = c.in-Some.declared in
    let row = row_of (λ v. v.items) c.args.marks.now declared.class c.in-Some-get.row.now [] c.in-Some-get.ensures.lookup.3.0 c.in-Some-get.ensures.lookup.1 in
    rw c.in-Some.is (c.in-None-get.ensures.lookup.4 (omega arith) false ∙ ap (λ row. slice_index_or row declared.index false) (c.deref.ensures.value ∙ sym row))

pub returns-in-Some-get-2 : goal.returns-in-Some-get-2
returns-in-Some-get-2 c =
    let declared = c.in-Some.declared in
    let row = row_of (λ v. v.items) c.args.marks.now declared.class c.in-Some-get.row.now [] c.in-Some-get.ensures.lookup.3.0 c.in-Some-get.ensures.lookup.1 in
    rw c.in-Some.is
    (item_of c.deref.result.now declared.index c.in-Some-get-2.mark.now false c.in-Some-get-2.ensures.lookup.3.0 c.in-Some-get-2.ensures.lookup.1 ∙
    ap (λ row. slice_index_or row declared.index false) (c.deref.ensures.value ∙ sym row))

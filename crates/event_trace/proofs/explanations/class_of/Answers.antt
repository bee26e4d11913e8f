use Rattle.std.proofs.Common.{◌≡◌, ◌+◌, ◌-◌, length, Some, refl, sym, ap, ◌∙◌, subst, slice_get, arith}
use Rattle.event_trace.proofs.Names.{length-map, slice_get_read, built_ins, built_in_entry}
use Rattle.event_trace.proofs.Classes.{source_class}
use Rattle.event_trace.proofs.explanations.class_of.Goals as goal

pub returns : goal.returns
returns c =
    let class = c.in_ok-class.class.now in
    let number = c.args.number - length c.args.classes.now in
    let read : slice_get c.as_slice.result.now number ≡ Some class = slice_get_read c.as_slice.result.now (length c.as_slice.result.now) number class refl c.in_ok-class.ensures.lookup.3.0 c.in_ok-class.ensures.lookup.1 in
    let there : slice_get c.args.tree.now.classes number ≡ Some class = subst (λ classes. slice_get classes number ≡ Some class) c.as_slice.ensures read in
    let count : length built_ins ≡ length c.args.classes.now = ap length (sym c.requires) ∙ length-map c.args.classes.now built_in_entry in
    let is : c.args.number ≡ length built_ins + number = omega (arith, count, c.if-number-classes.false) in
    sym (source_class c.args.tree.now c.args.number number class is there)

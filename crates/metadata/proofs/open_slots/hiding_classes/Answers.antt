use Rattle.std.proofs.Common.{◌≡◌, List, Bool, Some, true, false, replicate, length, slice_get, rules, sym, ap, subst, ◌∙◌}
use Rattle.name_tables.specs.Methods.{line_of}
use Rattle.resolved_code.specs.VirtualSlots.{hides_abstract}
use Rattle.metadata.specs.OpenSlots.{AreClear}
use Rattle.metadata.proofs.MethodLaws.{no_set, none_no}
use Rattle.metadata.proofs.open_slots.hiding_classes.Goals as goal

pub loop-index-init : goal.loop-index-init
loop-index-init c = λ class k e.
    let all : c.in_ok-may_hide.may_hide.items ≡ replicate (length c.bases-bases.result.now) true = c.in_ok-may_hide.ensures.items_if_clones_equal (search rules) in
    absurd (none_no (length c.bases-bases.result.now) class (sym (ap (λ xs. slice_get xs class) all) ∙ e))

pub stays_clear-requires : goal.stays_clear-requires
stays_clear-requires c = subst (λ (xs : List Bool). AreClear c.args.methods.now.names.now.classes.tree.now xs) (sym c.as_slice.ensures.value) c.loop-index.invariant

pub loop-index-preserved : goal.loop-index-preserved
loop-index-preserved c = λ class k e.
    let t = c.args.methods.now.names.now.classes.tree.now in
    no_set (λ n. hides_abstract t k (line_of t (Some n)) ≡ false) c.loop-index.may_hide.items c.index-class.result.now (λ n h. c.loop-index.invariant n k h) (rw c.new.ensures at c.stays_clear.ensures c.if-not-stays_clear.false k) class e

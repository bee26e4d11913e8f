use Rattle.std.proofs.Common.{◌≡◌, ◌+◌, ◌∷◌, [], ℕ, List, Bool, Some, true, false, length, map, slice_get, sym, ap, subst, ◌∙◌}
use Rattle.std.proofs.lemmas.Bool.{or_from}
use Rattle.std.proofs.lemmas.List.{length-append}
use Rattle.cil_model.specs.declared.trees.Method.{Method}
use Rattle.cil_model.specs.Chains.{is_abstract_method}
use Rattle.inheritance.specs.MarkedDeclarations.{is_marked}
use Rattle.name_tables.specs.Methods.{method_index, line_of}
use Rattle.name_tables.specs.Numbers.{nearest_number}
use Rattle.resolved_code.specs.VirtualSlots.{is_nearest_abstract, IsDecided}
use Rattle.metadata.specs.OpenSlots.{marks_in}
use Rattle.metadata.proofs.MethodLaws.{marked, top_tested, yes_more}
use Rattle.metadata.proofs.open_slots.decided_classes.Goals as goal

pub loop-class-preserved : goal.loop-class-preserved
loop-class-preserved c =
    let t = c.args.methods.now.names.now.classes.tree.now in
    let P : ℕ → Type 0 = λ class. IsDecided t (line_of t (Some class)) in
    let here : c.is_neither.result ≡ true → P c.loop-class.class = λ e k.
    let line = line_of t (Some c.loop-class.class) in
    let rows : map (λ v. v.items) c.as_slice.result.now ≡ marks_in t = ap (map (λ v. v.items)) c.as_slice.ensures.value ∙ c.in_ok-marks.ensures in
    let stay : slice_get c.in_ok-may_stay.may_stay.items c.loop-class.class ≡ Some false = ap (λ xs. slice_get xs c.loop-class.class) (sym c.as_slice-in-loop-class.ensures.value) ∙ (rw c.new.ensures at c.is_neither.ensures.first e) in
    let hide : slice_get c.in_ok-may_hide.may_hide.items c.loop-class.class ≡ Some false = ap (λ xs. slice_get xs c.loop-class.class) (sym c.as_slice-in-loop-class-2.ensures.value) ∙ (rw c.new.ensures at c.is_neither.ensures.second e) in
    let top : is_nearest_abstract t k line ≡ false = top_tested t k line ∙ sym (marked t k (λ (m : Method). is_abstract_method m.kind) line) ∙ sym (ap (λ (marks : List (List Bool)). is_marked marks (nearest_number (method_index t k) line)) rows) ∙ c.in_ok-may_stay.ensures.unmarked c.loop-class.class k stay in
    or_from _ _ (c.in_ok-may_hide.ensures c.loop-class.class k hide) top in
    let more = yes_more P c.loop-class.decided.items c.is_neither.result c.loop-class.invariant.1 (λ e. subst P (sym c.loop-class.invariant.0) (here e)) in (
      ap length c.in_ok-push.ensures.items ∙ length-append c.loop-class.decided.items (c.is_neither.result ∷ []) ∙ ap (λ n. n + 1) c.loop-class.invariant.0,
      λ class e. more class (sym (ap (λ xs. slice_get xs class) c.in_ok-push.ensures.items) ∙ e),
    )

use Rattle.std.proofs.Common.{◌≡◌, ◌<◌, ◌∷◌, [], Some, length, map, take, slice_get, refl, sym, ap, ◌∙◌, arith}
use Rattle.std.proofs.Math.Seq.{take-length}
use Rattle.std.proofs.lemmas.List.{map-append}
use Rattle.std.proofs.lemmas.Option.{slice_get_read, get_or_from_slice_get}
use Rattle.resolved_code.specs.ResolvedPrograms.{IsResolvedMethod}
use Rattle.resolved_code.proofs.ListLaws.RelatedLists.{AlikeTo, alike_to, alike_length}
use Rattle.class_layout.specs.Targets.{target_row, targets_of}
use Rattle.class_layout.proofs.Indices.{push_takes}
use Rattle.class_layout.proofs.targets.rows_of.Goals as goal

pub loop-index-preserved : goal.loop-index-preserved
loop-index-preserved c = λ e there are.
    let t = c.args.classes.now.program.now in
    let p = c.loop-index.index in
    let rs = c.args.methods.now in
    let r = c.index-methods-index.result in
    let read : slice_get rs p ≡ Some r = slice_get_read rs (length rs) p r refl (omega arith) c.index-methods-index.is in
    let found : AlikeTo (IsResolvedMethod t) e.1.methods p r = alike_to (IsResolvedMethod t) e.1.methods rs p r are read in
    let many : length e.1.methods ≡ length rs = alike_length (IsResolvedMethod t) e.1.methods rs are in
    let within : p < length e.1.methods = omega arith in
    push_takes (target_row t e.0) e.1.methods p found.item (map targets_of c.loop-index.rows.items) (map targets_of c.push.new.self.items) (targets_of c.in_ok-method_targets.field-0) within
    (sym (get_or_from_slice_get e.1.methods p found.item found.item found.there)) (c.loop-index.invariant e there are) (c.in_ok-method_targets.ensures e found.item there found.alike)
    (ap (map targets_of) c.in_ok-push.ensures.items ∙ map-append targets_of c.loop-index.rows.items (c.in_ok-method_targets.field-0 ∷ []))

pub returns : goal.returns
returns c = λ e there are.
    let t = c.args.classes.now.program.now in
    let many : length e.1.methods ≡ length c.args.methods.now = alike_length (IsResolvedMethod t) e.1.methods c.args.methods.now are in
    let seen : c.loop-index.index ≡ length e.1.methods = omega arith in
    c.loop-index.invariant e there are ∙ ap (λ n. map (target_row t e.0) (take n e.1.methods)) seen ∙ ap (map (target_row t e.0)) (take-length e.1.methods)

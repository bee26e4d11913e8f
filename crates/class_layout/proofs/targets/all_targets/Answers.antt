use Rattle.std.proofs.Common.{◌≡◌, ◌∷◌, [], List, Some, length, map, slice_get, refl, sym, ap, subst, ◌∙◌, arith}
use Rattle.std.proofs.lemmas.List.{map-append}
use Rattle.std.proofs.lemmas.Option.{slice_get_read}
use Rattle.cil_model.specs.declared.types.ClassName.{ClassName}
use Rattle.cil_model.specs.Declarations.{Declaration}
use Rattle.cil_model.specs.Chains.{listed_by}
use Rattle.name_tables.specs.Numbers.{declarations}
use Rattle.resolved_code.specs.declared.classes.ResolvedClass.{ResolvedClass}
use Rattle.resolved_code.specs.declared.classes.ResolvedMethod.{ResolvedMethod}
use Rattle.resolved_code.specs.ResolvedPrograms.{AllAlike, IsResolvedMethod}
use Rattle.resolved_code.proofs.ListLaws.RelatedLists.{alike_length}
use Rattle.class_layout.specs.Targets.{target_row, target_rows, targets_of}
use Rattle.class_layout.proofs.ResolvedLaws.{IsClass, class_alike, class_pushed, classes_pushed, declared_at}
use Rattle.class_layout.proofs.targets.all_targets.Goals as goal

pub loop-class-preserved : goal.loop-class-preserved
loop-class-preserved c =
    let s = c.args.classes.now in
    let t = s.program.now in
    let i = c.loop-class.class in
    let r = c.index-all-class.result in
    let many : length (declarations t) ≡ length s.all.now = alike_length (IsClass t) (declarations t) s.all.now c.requires in
    let read : slice_get s.all.now i ≡ Some r = slice_get_read s.all.now (length s.all.now) i r refl (omega arith) c.index-all-class.is in
    let each : (e : ClassName × Declaration) → slice_get (declarations t) i ≡ Some e → map targets_of c.in_ok-rows_of.field-0.items ≡ target_rows t e.0 =
    λ e there.
    let Members : List ResolvedMethod → Type 0 = λ ms. AllAlike (IsResolvedMethod t) e.1.methods ms in
    let is : IsClass t e r = class_alike t s.all.now c.requires i e r there read in
    let members : Members c.as_slice-methods.result.now = subst Members (ap (λ (x : ResolvedClass). x.methods) c.index-all-class.is ∙ sym c.as_slice-methods.ensures) is.methods in
    c.in_ok-rows_of.ensures e (ap (slice_get (declarations t)) c.new.ensures ∙ there) members ∙ ap (λ o. map (target_row t e.0) (listed_by (λ (d : Declaration). d.methods) o)) (sym (declared_at t s.legal i e there)) in
    class_pushed t (target_rows t) i (map (λ row. map targets_of row.items) c.loop-class.rows.items) (map (λ row. map targets_of row.items) c.push.new.self.items) (map targets_of c.in_ok-rows_of.field-0.items) (omega arith) c.loop-class.invariant each
    (ap (map (λ row. map targets_of row.items)) c.in_ok-push.ensures.items ∙ map-append (λ row. map targets_of row.items) c.loop-class.rows.items (c.in_ok-rows_of.field-0 ∷ []))

pub returns : goal.returns
returns c =
    let s = c.args.classes.now in
    let t = s.program.now in
    let many : length (declarations t) ≡ length s.all.now = alike_length (IsClass t) (declarations t) s.all.now c.requires in
    classes_pushed t (target_rows t) c.loop-class.class (map (λ row. map targets_of row.items) c.loop-class.rows.items) (omega arith) c.loop-class.invariant

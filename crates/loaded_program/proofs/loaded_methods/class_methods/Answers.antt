use Rattle.std.proofs.Common.{◌≡◌, ◌+◌, List, Some, length, take, slice_get, arith, refl, sym, ap, subst, ◌∙◌}
use Rattle.std.proofs.Math.Seq.{take-length}
use Rattle.std.proofs.lemmas.Option.{slice_get_read}
use Rattle.cil_model.specs.declared.types.ClassName.{ClassName}
use Rattle.cil_model.specs.declared.trees.Method.{Method}
use Rattle.resolved_code.specs.ResolvedPrograms.{AllAlike, IsResolvedMethod}
use Rattle.loaded_program.specs.declared.loaded_methods.LoadedMethod.{LoadedMethod}
use Rattle.loaded_program.specs.AllMethods.{owned_methods}
use Rattle.loaded_program.specs.LoadedPrograms.{IsLoadedMethod}
use Rattle.resolved_code.proofs.ListLaws.RelatedLists.{AlikeTo, alike_to, alike_length}
use Rattle.loaded_program.proofs.FlatLaws.{alike_more, owned_count, owned_at, id_at}
use Rattle.loaded_program.proofs.loaded_methods.class_methods.Goals as goal

pub loop-index-preserved : goal.loop-index-preserved
loop-index-preserved c e at same =
    let tree = c.args.linker.now.program.now in
    let p = c.loop-index.index in
    let r = c.index-methods-index.result in
    let read : slice_get c.args.methods.now p ≡ Some r = slice_get_read c.args.methods.now (length c.args.methods.now) p r refl (omega arith) c.index-methods-index.is in
    let found : AlikeTo (IsResolvedMethod tree) e.1.methods p r = alike_to (IsResolvedMethod tree) e.1.methods c.args.methods.now p r same read in
    let one : IsLoadedMethod tree (e.0, found.item) c.in_ok-new.field-0 = c.in_ok-new.ensures (e.0, found.item) (id_at tree c.args.class p e found.item at found.there) found.alike in
    let P : List LoadedMethod → Type 0 = λ ys. AllAlike (IsLoadedMethod tree) (take (p + 1) (owned_methods e)) ys in
    subst P (sym c.in_ok-push.ensures.items) (alike_more (IsLoadedMethod tree) (owned_methods e) c.loop-index.loaded.items p (e.0, found.item) c.in_ok-new.field-0 (c.loop-index.invariant e at same) (owned_at e p found.item found.there) one)

pub returns : goal.returns
returns c e at same =
    let tree = c.args.linker.now.program.now in
    let seen : c.loop-index.index ≡ length c.args.methods.now = omega arith in
    let all : c.loop-index.index ≡ length (owned_methods e) = seen ∙ sym (owned_count e ∙ alike_length (IsResolvedMethod tree) e.1.methods c.args.methods.now same) in
    let P : List (ClassName × Method) → Type 0 = λ xs. AllAlike (IsLoadedMethod tree) xs c.loop-index.loaded.items in
    subst P (ap (λ n. take n (owned_methods e)) all ∙ take-length (owned_methods e)) (c.loop-index.invariant e at same)

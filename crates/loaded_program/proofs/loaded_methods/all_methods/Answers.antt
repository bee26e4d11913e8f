use Rattle.std.proofs.Common.{◌≡◌, ◌+◌, ◌++◌, List, Some, length, take, slice_get, arith, refl, sym, ap, subst, ◌∙◌}
use Rattle.std.specs.List.{flat_map}
use Rattle.std.proofs.Math.Seq.{take-length}
use Rattle.std.proofs.lemmas.Option.{slice_get_read}
use Rattle.cil_model.specs.declared.types.ClassName.{ClassName}
use Rattle.cil_model.specs.declared.trees.Method.{Method}
use Rattle.cil_model.specs.declared.trees.Tree.{Tree}
use Rattle.cil_model.specs.Declarations.{Declaration}
use Rattle.name_tables.specs.Numbers.{declarations}
use Rattle.resolved_code.specs.declared.classes.ResolvedClass.{ResolvedClass}
use Rattle.resolved_code.specs.declared.classes.ResolvedMethod.{ResolvedMethod}
use Rattle.resolved_code.specs.ResolvedPrograms.{AllAlike, IsResolvedMethod, IsResolvedClass}
use Rattle.loaded_program.specs.declared.loaded_methods.LoadedMethod.{LoadedMethod}
use Rattle.loaded_program.specs.AllMethods.{owned_methods}
use Rattle.loaded_program.specs.LoadedPrograms.{IsLoadedMethod}
use Rattle.resolved_code.proofs.ListLaws.RelatedLists.{AlikeTo, alike_to, alike_length}
use Rattle.loaded_program.proofs.FlatLaws.{alike_after, classes_more}
use Rattle.loaded_program.proofs.loaded_methods.all_methods.Goals as goal

abbrev IsClass : Tree → ClassName × Declaration → ResolvedClass → Type 0
IsClass tree e r = IsResolvedClass tree e.1 r

pub loop-class-preserved : goal.loop-class-preserved
loop-class-preserved c =
    let tree = c.args.linker.now.program.now in
    let classes = c.classes-classes.result.now in
    let i = c.loop-class.class in
    let r = c.index-classes-class.result in
    let read : slice_get classes i ≡ Some r = slice_get_read classes (length classes) i r refl (omega arith) c.index-classes-class.is in
    let found : AlikeTo (IsClass tree) (declarations tree) i r = alike_to (IsClass tree) (declarations tree) classes i r c.classes-classes.ensures read in
    let e = found.item in
    let Members : List ResolvedMethod → Type 0 = λ rs. AllAlike (IsResolvedMethod tree) e.1.methods rs in
    let members : Members c.as_slice.result.now = subst Members (ap (λ (x : ResolvedClass). x.methods) c.index-classes-class.is ∙ sym c.as_slice.ensures) found.alike.methods in
    let more : AllAlike (IsLoadedMethod tree) (owned_methods e) c.in_ok-more.more.items = c.in_ok-more.ensures e (ap (slice_get (declarations tree)) c.new.ensures ∙ found.there) members in
    let seen : List (ClassName × Method) = flat_map owned_methods (take i (declarations tree)) in
    let both : AllAlike (IsLoadedMethod tree) (seen ++ owned_methods e) (c.loop-class.loaded.items ++ c.in_ok-more.more.items) = alike_after (IsLoadedMethod tree) seen c.loop-class.loaded.items (owned_methods e) c.in_ok-more.more.items c.loop-class.invariant more in
    let P : List (ClassName × Method) → Type 0 = λ xs. AllAlike (IsLoadedMethod tree) xs (c.loop-class.loaded.items ++ c.in_ok-more.more.items) in
    let Q : List LoadedMethod → Type 0 = λ ys. AllAlike (IsLoadedMethod tree) (flat_map owned_methods (take (i + 1) (declarations tree))) ys in
    subst Q (sym c.in_ok-append.ensures.items) (subst P (sym (classes_more (declarations tree) i e found.there)) both)

pub returns : goal.returns
returns c =
    let tree = c.args.linker.now.program.now in
    let seen : c.loop-class.class ≡ length c.classes-classes.result.now = omega arith in
    let all : c.loop-class.class ≡ length (declarations tree) = seen ∙ sym (alike_length (IsClass tree) (declarations tree) c.classes-classes.result.now c.classes-classes.ensures) in
    let P : List (ClassName × Declaration) → Type 0 = λ es. AllAlike (IsLoadedMethod tree) (flat_map owned_methods es) c.loop-class.loaded.items in
    subst P (ap (λ n. take n (declarations tree)) all ∙ take-length (declarations tree)) c.loop-class.invariant

use Rattle.std.proofs.Common.{subst, ◌≡◌, ◌<◌, ◌∙◌, ap, Some, length, slice_get, sym}
use Rattle.std.specs.Prelude.{IsSome}
use Rattle.std.proofs.lemmas.Option.{same_Some, slice_get_within}
use Rattle.cil_model.specs.declared.trees.Tree.{Tree}
use Rattle.loaded_program.specs.AllMethods.{all_methods, method_id}
use Rattle.loaded_program.specs.MethodNumbers.{number_of}
use Rattle.loaded_program.specs.LoadedPrograms.{IsLoadedMethod}
use Rattle.loaded_program.specs.declared.loaded_methods.LoadedMethod.{LoadedMethod}
use Rattle.loaded_program.proofs.NumberLaws.{id_of_number, number_of_index}
use Rattle.loaded_program.proofs.MethodLaws.{alike_from, some_of}
use Rattle.loaded_program.proofs.parts.Parts.method.Goals as goal

pub item-requires : goal.item-requires
item-requires c =
    let tree = c.self.inside.program in
    let found = some_of (slice_get (all_methods tree) c.args.number) (subst (λ (t : Tree). IsSome (slice_get (all_methods t) c.args.number)) (sym c.self.view_is) c.requires) in
    let known = alike_from (IsLoadedMethod tree) (all_methods tree) c.self.inside.methods.items c.args.number found.0 c.self.invariant.loaded found.1 in
    subst (λ ms. c.args.number < length ms) (sym c.as_slice.ensures.value) (slice_get_within c.self.inside.methods.items c.args.number known.0 known.1)

pub returns-clause-loaded : goal.returns-clause-loaded
returns-clause-loaded c found at =
    let tree = c.self.inside.program in
    let there = subst (λ (t : Tree). slice_get (all_methods t) c.args.number ≡ Some found) (sym c.self.view_is) at in
    let known = alike_from (IsLoadedMethod tree) (all_methods tree) c.self.inside.methods.items c.args.number found c.self.invariant.loaded there in
    let same : known.0 ≡ c.item.result.now = same_Some known.0 c.item.result.now (sym known.1 ∙ sym (ap (λ ms. slice_get ms c.args.number) c.as_slice.ensures.value) ∙ c.item.ensures) in
    subst (λ (t : Tree). IsLoadedMethod t found c.item.result.now) c.self.view_is (subst (IsLoadedMethod tree found) same known.2)

pub returns-clause-number : goal.returns-clause-number
returns-clause-number c found at =
    let there = subst (λ (t : Tree). slice_get (all_methods t) c.args.number ≡ Some found) (sym c.self.view_is) at in
    subst (λ (t : Tree). number_of t found ≡ Some c.args.number) c.self.view_is (number_of_index c.self.inside.program c.self.invariant.layout_is.legal c.args.number found there)

pub returns-clause-id : goal.returns-clause-id
returns-clause-id c =
    let tree = c.self.inside.program in
    let found = some_of (slice_get (all_methods tree) c.args.number) (subst (λ (t : Tree). IsSome (slice_get (all_methods t) c.args.number)) (sym c.self.view_is) c.requires) in
    let known = alike_from (IsLoadedMethod tree) (all_methods tree) c.self.inside.methods.items c.args.number found.0 c.self.invariant.loaded found.1 in
    let same : known.0 ≡ c.item.result.now = same_Some known.0 c.item.result.now (sym known.1 ∙ sym (ap (λ ms. slice_get ms c.args.number) c.as_slice.ensures.value) ∙ c.item.ensures) in
    sym (ap (λ (m : LoadedMethod). m.member) same) ∙ id_of_number tree c.self.invariant.layout_is.legal c.args.number found.0 found.1 known.0.member known.2.member
    ∙ ap (λ (t : Tree). method_id t c.args.number) c.self.view_is

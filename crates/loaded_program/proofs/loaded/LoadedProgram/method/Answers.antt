use Rattle.std.proofs.Common.{◌≡◌, Some, slice_get, ◌∙◌, ap, subst, sym}
use Rattle.cil_model.specs.declared.trees.Tree.{Tree}
use Rattle.loaded_program.specs.AllMethods.{all_methods, method_id}
use Rattle.loaded_program.specs.MethodNumbers.{number_of}
use Rattle.loaded_program.specs.LoadedPrograms.{IsLoadedMethod}
use Rattle.loaded_program.proofs.loaded.LoadedProgram.method.Goals as goal

pub returns-clause-loaded : goal.returns-clause-loaded
returns-clause-loaded c found at =
    let same = c.deref.ensures ∙ c.self.view_is in
    subst (λ (tree : Tree). IsLoadedMethod tree found c.method.result.now) same (c.method.ensures.loaded found (subst (λ (tree : Tree). slice_get (all_methods tree) c.args.number ≡ Some found) (sym same) at))

pub returns-clause-number : goal.returns-clause-number
returns-clause-number c found at =
    let same = c.deref.ensures ∙ c.self.view_is in
    subst (λ (tree : Tree). number_of tree found ≡ Some c.args.number) same (c.method.ensures.number found (subst (λ (tree : Tree). slice_get (all_methods tree) c.args.number ≡ Some found) (sym same) at))

pub returns-clause-id : goal.returns-clause-id
returns-clause-id c = c.method.ensures.id ∙ ap (λ (tree : Tree). method_id tree c.args.number) (c.deref.ensures ∙ c.self.view_is)

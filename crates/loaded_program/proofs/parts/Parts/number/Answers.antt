use Rattle.std.proofs.Common.{subst, ◌≡◌, ◌∙◌, ap, Some, slice_get, sym}
use Rattle.cil_model.specs.declared.trees.Tree.{Tree}
use Rattle.name_tables.specs.Numbers.{method_at}
use Rattle.loaded_program.specs.AllMethods.{all_methods}
use Rattle.loaded_program.proofs.FlatLaws.{method_of_number}
use Rattle.loaded_program.proofs.parts.Parts.number.Goals as goal

pub returns : goal.returns
returns c found at =
    let tree = c.self.inside.program in
    let member = c.args.member in
    let there = subst (λ (t : Tree). method_at t (member.class, member.index) ≡ Some found) (sym c.self.view_is) at in
    subst (λ (t : Tree). slice_get (all_methods t) c.number.result ≡ Some found) c.self.view_is
    (ap (slice_get (all_methods tree)) (c.number.ensures tree c.self.invariant.flat_numbers found there) ∙ method_of_number tree member.class member.index found there)

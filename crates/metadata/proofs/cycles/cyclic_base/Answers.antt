use Rattle.std.proofs.Common.{◌≡◌, Some, length, slice_get, refl, sym, ap, ◌∙◌}
use Rattle.std.proofs.lemmas.Option.{slice_get_read}
use Rattle.std.specs.List.{list_any}
use Rattle.cil_model.specs.declared.trees.Class.{Class}
use Rattle.cil_model.specs.Declarations.{source_name}
use Rattle.cil_model.specs.Legality.{is_own_base}
use Rattle.metadata.proofs.CycleLaws.{some_round}
use Rattle.metadata.proofs.cycles.cyclic_base.Goals as goal

pub returns-then-is_own_base : goal.returns-then-is_own_base
returns-then-is_own_base c =
    let t = c.args.names.now.classes.tree.now in
    let classes = c.as_slice-classes.result.now in
    let read : slice_get classes c.in-Some.class ≡ Some c.in-Some-get.declared.now =
    slice_get_read classes (length classes) c.in-Some.class c.in-Some-get.declared.now refl c.in-Some-get.ensures.lookup.3.0 c.in-Some-get.ensures.lookup.1 in
    some_round t c.in-Some.class c.in-Some-get.declared.now (ap (λ xs. slice_get xs c.in-Some.class) (sym c.as_slice-classes.ensures) ∙ read) (sym c.is_own_base.ensures ∙ c.if-is_own_base.true)

pub returns : goal.returns
returns c =
    let t = c.args.names.now.classes.tree.now in
    c.first_cyclic_base.ensures ∙ ap (list_any (λ (k : Class). is_own_base t (source_name k))) c.as_slice-classes.ensures

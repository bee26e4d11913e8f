use Rattle.std.proofs.Common.{◌<◌, Bor, map, sym, subst, ◌∙◌}
use Rattle.std.proofs.lemmas.List.{length-map}
use Rattle.cil_model.specs.declared.trees.Method.{Method}
use Rattle.cil_model.specs.Bodies.{is_entry_point}
use Rattle.cil_model.specs.Legality.{is_entry_method}
use Rattle.metadata.proofs.EntryLaws.{none_fits, is_within}
use Rattle.metadata.proofs.entry.entry_fault.Goals as goal

pub first_fault-requires-clause-within : goal.first_fault-requires-clause-within
first_fault-requires-clause-within c =
    let methods = c.args.methods.now in
    subst (λ n. c.in-Some.first < n) (length-map methods (λ (m : Bor Method). m.now)) (is_within is_entry_point is_entry_method (map (λ (m : Bor Method). m.now) methods) c.in-Some.first (sym c.entry_index.ensures ∙ c.in-Some.is))

pub returns-in-None : goal.returns-in-None
returns-in-None c = sym (none_fits is_entry_point is_entry_method (map (λ (m : Bor Method). m.now) c.args.methods.now) (sym c.entry_index.ensures ∙ c.in-None.is))

use Rattle.std.proofs.Common.{Some, option_map, sym, ap, ◌∙◌}
use Rattle.std.proofs.lemmas.Option.{same_Some}
use Rattle.cil_model.proofs.Lists.{none_is_some}
use Rattle.name_tables.specs.declared.ids.MethodId.{MethodId}
use Rattle.name_tables.specs.Numbers.{method_at}
use Rattle.loaded_program.proofs.loaded.LoadedProgram.class_target.Goals as goal

pub returns-in-Some : goal.returns-in-Some
returns-in-Some c found run class at named runs =
    let tree = c.args.self.now in
    let target = c.in-Some.target in
    let target_is = sym (ap (option_map (λ (n : MethodId). method_at tree (n.class, n.index))) c.in-Some.is) ∙ c.target.ensures tree c.layout.ensures found.0 class found.1 named at ∙ ap (option_map Some) runs in
    c.number.ensures run (same_Some (method_at tree (target.class, target.index)) (Some run) target_is)

pub returns-in-None : goal.returns-in-None
returns-in-None c found run class at named runs =
    let tree = c.args.self.now in
    absurd (none_is_some (Some run) (sym (ap (option_map (λ (n : MethodId). method_at tree (n.class, n.index))) c.in-None.is) ∙ c.target.ensures tree c.layout.ensures found.0 class found.1 named at ∙ ap (option_map Some) runs))

use Rattle.std.proofs.Common.{Some, sym, ap, ◌∙◌}
use Rattle.std.specs.Prelude.{is_some}
use Rattle.cil_model.specs.Chains.{is_virtual}
use Rattle.cil_model.specs.Slots.{target}
use Rattle.resolved_code.specs.ById.{class_name}
use Rattle.loaded_program.specs.LoadedPrograms.{chosen_by}
use Rattle.loaded_program.proofs.OperandLaws.{then_some, unless_some}
use Rattle.loaded_program.proofs.MethodLaws.{chosen}
use Rattle.loaded_program.proofs.loaded.LoadedProgram.target.Goals as goal

pub method-requires : goal.method-requires
method-requires c = ap is_some (chosen c.args.self.now c.args.method c.args.class c.requires).found_is

pub returns-in-Some : goal.returns-in-Some
returns-in-Some c =
    let tree = c.args.self.now in
    let here = chosen tree c.args.method c.args.class c.requires in
    let class = then_some (λ d. target tree d here.found.0 here.found.1) (class_name tree c.in-Some.class) here.run (ap (chosen_by tree here.found) (sym c.in-Some.is) ∙ here.run_is) in
    c.class_target.ensures here.found here.run class.0 (c.method.ensures.loaded here.found here.found_is).member class.1 class.2 ∙ sym here.target_is

pub returns-in-None : goal.returns-in-None
returns-in-None c =
    let tree = c.args.self.now in
    let here = chosen tree c.args.method c.args.class c.requires in
    let itself = unless_some (is_virtual here.found.1.kind) (Some here.found) here.run (ap (chosen_by tree here.found) (sym c.in-None.is) ∙ here.run_is) in
    here.found_is ∙ itself.1 ∙ sym here.target_is

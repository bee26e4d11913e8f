use Rattle.std.proofs.Common.{Bool, List, option_map, option_to_list, sym, ap, ◌∙◌}
use Rattle.std.specs.List.{list_all}
use Rattle.cil_model.specs.declared.types.ClassName.{ClassName}
use Rattle.cil_model.specs.Legality.{is_resolved}
use Rattle.resolved_code.proofs.ListLaws.Tests.{and_true}
use Rattle.metadata.proofs.unknown.owner_fault.Goals as goal

pub returns-in-None : goal.returns-in-None
returns-in-None c =
    let all : List ClassName → Bool = list_all (is_resolved c.args.names.now.classes.tree.now) in
    ap (λ o. all (option_to_list (option_map (λ n. n.now) o))) (sym c.in-None.is) ∙ ap all c.owner_of_instruction.ensures

pub returns-in-Some : goal.returns-in-Some
returns-in-Some c =
    let all : List ClassName → Bool = list_all (is_resolved c.args.names.now.classes.tree.now) in
    c.bracket_fault.ensures ∙ sym (and_true (is_resolved c.args.names.now.classes.tree.now c.in-Some.owner.now)) ∙ ap (λ o. all (option_to_list (option_map (λ n. n.now) o))) (sym c.in-Some.is) ∙ ap all c.owner_of_instruction.ensures

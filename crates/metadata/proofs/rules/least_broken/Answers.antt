use Rattle.std.proofs.Common.{ℕ, Option, option_map, sym, ap, ◌∙◌}
use Rattle.std.specs.Option.{option_or}
use Rattle.cil_model.specs.Legality.{first_broken}
use Rattle.resolved_code.proofs.ListLaws.Repeats.{if_ok_then}
use Rattle.metadata.specs.RuleNumbers.{violation_number, rules_of_names, rules_of_methods}
use Rattle.metadata.proofs.RuleLaws.{broken_in_parts}
use Rattle.metadata.proofs.rules.least_broken.Goals as goal

pub returns-in-None : goal.returns-in-None
returns-in-None c =
    let t = c.args.names.now.classes.tree.now in
    let others : Option ℕ = first_broken (rules_of_methods t) in
    if_ok_then c.broken_further.result _ _
    (λ v e. e ∙ sym (broken_in_parts (rules_of_names t) (rules_of_methods t) ∙ ap (λ (o : Option ℕ). option_or o others) (sym c.in_ok-broken_by_names.ensures ∙ ap (option_map violation_number) c.in-None.is)))
    c.broken_further.ensures

pub returns-in-Some : goal.returns-in-Some
returns-in-Some c =
    let t = c.args.names.now.classes.tree.now in
    let others : Option ℕ = first_broken (rules_of_methods t) in
    sym (broken_in_parts (rules_of_names t) (rules_of_methods t) ∙ ap (λ (o : Option ℕ). option_or o others) (sym c.in_ok-broken_by_names.ensures ∙ ap (option_map violation_number) c.in-Some.is))

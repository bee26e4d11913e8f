use Rattle.std.proofs.Common.{map, ap, ◌∙◌}
use Rattle.std.specs.List.{list_all}
use Rattle.metadata.specs.NameChecks.{knows_names}
use Rattle.resolved_code.proofs.ListLaws.Repeats.{if_ok_then}
use Rattle.metadata.proofs.unknown.unknown_by_methods.Goals as goal

pub returns : goal.returns
returns c =
    if_ok_then c.unknown_in_methods.result _ _
    (λ u e. e ∙ ap (list_all (knows_names c.args.names.now.classes.tree.now)) (ap (map (λ m. m.now)) c.as_slice.ensures.value ∙ c.in_ok-methods.ensures))
    c.unknown_in_methods.ensures

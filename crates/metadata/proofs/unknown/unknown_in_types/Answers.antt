use Rattle.std.proofs.Common.{ap, ◌∙◌, map}
use Rattle.std.specs.List.{list_all}
use Rattle.metadata.proofs.UnknownLaws.{is_type, types_known}
use Rattle.metadata.proofs.unknown.unknown_in_types.Goals as goal

pub returns : goal.returns
returns c = let t = c.args.names.now.classes.tree.now in
    c.unknown_among_types.ensures ∙ ap (list_all (is_type t)) (ap (map (λ x. x.declared.now)) c.as_slice.ensures.value ∙ c.in_ok-types.ensures) ∙ types_known t

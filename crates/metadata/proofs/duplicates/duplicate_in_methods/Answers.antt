use Rattle.std.proofs.Common.{List, Bool, map, ap, ◌∙◌}
use Rattle.std.specs.List.{list_any}
use Rattle.cil_model.specs.declared.trees.Method.{Method}
use Rattle.cil_model.specs.Same.{same_text}
use Rattle.cil_model.specs.Legality.{has_repeat, labels_before}
use Rattle.resolved_code.proofs.ListLaws.Repeats.{if_ok_then}
use Rattle.metadata.proofs.duplicates.duplicate_in_methods.Goals as goal

pub returns : goal.returns
returns c =
    let any : List Method → Bool = list_any (λ (m : Method). has_repeat same_text (labels_before m)) in
    if_ok_then c.first_with_repeated_label.result _ _ (λ d e. e ∙ ap any (ap (map (λ m. m.now)) c.as_slice.ensures.value ∙ c.in_ok-methods.ensures)) c.first_with_repeated_label.ensures

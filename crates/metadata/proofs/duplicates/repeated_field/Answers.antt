use Rattle.std.proofs.Common.{ap, sym, ◌∙◌, Bor, map}
use Rattle.cil_model.specs.declared.trees.Field.{Field}
use Rattle.cil_model.specs.Same.{same_text}
use Rattle.cil_model.specs.Legality.{has_repeat}
use Rattle.resolved_code.proofs.ListLaws.Repeats.{has_repeat-map, if_ok_then}
use Rattle.metadata.proofs.duplicates.repeated_field.Goals as goal

pub returns : goal.returns
returns c =
    if_ok_then c.repeated_name.result _ _ (λ r e. e ∙ sym (has_repeat-map (λ (f : Bor Field). f.now) (λ (a b : Field). same_text a.name b.name) c.as_slice.result.now) ∙
    ap (has_repeat (λ (a b : Field). same_text a.name b.name)) (ap (map (λ (f : Bor Field). f.now)) c.as_slice.ensures.value ∙ c.in_ok-fields.ensures)) c.repeated_name.ensures

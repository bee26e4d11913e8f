use Rattle.std.proofs.Common.{sym, ap, ◌∙◌, map}
use Rattle.cil_model.specs.Declarations.{method_members}
use Rattle.cil_model.specs.Legality.{has_repeat}
use Rattle.name_tables.specs.Keys.{method_of_key}
use Rattle.name_tables.specs.Sameness.{same_identity, identity_of}
use Rattle.resolved_code.proofs.ListLaws.Repeats.{has_repeat-map, if_ok_then}
use Rattle.metadata.proofs.duplicates.repeated_method.Goals as goal

pub returns : goal.returns
returns c =
    if_ok_then c.repeated_key.result _ _ (λ r e. e ∙ sym (has_repeat-map method_of_key same_identity c.in_ok-keys.keys.items) ∙
    ap (has_repeat same_identity) (c.in_ok-keys.ensures ∙ ap (λ xs. map identity_of (map (λ m. m.now) xs)) c.as_slice.ensures.value ∙ ap (map identity_of) c.in_ok-methods.ensures) ∙
    has_repeat-map identity_of same_identity (method_members c.args.class.now)) c.repeated_key.ensures

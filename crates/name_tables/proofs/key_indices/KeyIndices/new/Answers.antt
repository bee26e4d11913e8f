use Rattle.std.proofs.Common.{map, ap, ◌∙◌}
use Rattle.std.specs.List.{position_from}
use Rattle.cil_model.specs.Legality.{has_repeat}
use Rattle.name_tables.specs.KeyIds.{number_in}
use Rattle.name_tables.proofs.key_indices.KeyIndices.new.Goals as goal

pub invariant_of-result : goal.invariant_of-result
invariant_of-result g c =
    let eq = g.K.PartialEq.eq in
    let same = c.as_slice.ensures.value in (
      λ q. c.in_ok-numbers.ensures.firsts q ∙ ap (position_from (eq q) 0) same,
      c.in_ok-numbers.ensures.repeated ∙ ap (has_repeat eq) same,
      c.in_ok-numbers.ensures.numbers ∙ ap (λ keys. map (number_in eq keys) keys) same,
    )

use Rattle.std.proofs.Common.{◌+◌, ◌<◌, ◌^◌, length, arith, sym, ◌∙◌}
use Rattle.loaded_program.specs.AllMethods.{all_methods}
use Rattle.loaded_program.proofs.FlatLaws.{first_is_there, number_after}
use Rattle.loaded_program.proofs.numbers.MethodNumbers.number.Goals as goal

pub returns-in-None : goal.returns-in-None
returns-in-None c tree h found at =
    absurd (first_is_there tree c.args.member.class c.args.member.index found at c.as_slice.result.now (c.as_slice.ensures.value ∙ h.first) (sym c.first_at.ensures ∙ c.in-None.is))

pub returns-in-Some : goal.returns-in-Some
returns-in-Some c tree h found at =
    let following = number_after tree c.args.member.class c.args.member.index found at c.as_slice.result.now c.in-Some.first (c.as_slice.ensures.value ∙ h.first) (sym c.first_at.ensures ∙ c.in-Some.is) in
    let within : c.in-Some.first + c.args.member.index < length (all_methods tree) = following.2 in
    let few : length (all_methods tree) < 2 ^ 32 = h.few in
    c.number_from.ensures (omega arith) ∙ following.0

use Rattle.std.proofs.Common.{◌≡◌, ◌<◌, ◌^◌, sym, subst, ◌∙◌}
use Rattle.std.proofs.lemmas.Option.{same_Some}
use Rattle.cil_model.proofs.Lists.{none_is_some}
use Rattle.loaded_program.proofs.OperandLaws.{instance_field, static_field}
use Rattle.loaded_program.proofs.linker.Linker.slot.Goals as goal

pub returns-in-Some-clause-instance : goal.returns-in-Some-clause-instance
returns-in-Some-clause-instance c n e =
    let f = instance_field c.args.self.now.program.now c.args.field n e in
    let there = c.slot.ensures.instance c.args.self.now.program.now c.requires.layout_is f.found.0 f.found.1 f.found_is f.is_instance in
    let same : c.in-Some.slot ≡ n = same_Some c.in-Some.slot n (sym c.in-Some.is ∙ there ∙ f.slot_is) in
    c.in_32_bits.ensures (subst (λ k. k < 2 ^ 32) (sym same) f.fits) ∙ same

pub returns-in-Some-clause-static_field : goal.returns-in-Some-clause-static_field
returns-in-Some-clause-static_field c n e =
    let f = static_field c.args.self.now.program.now c.args.field n e in
    let there = c.slot.ensures.static_field c.args.self.now.program.now c.requires.layout_is f.found.0 f.found.1 f.found_is f.is_static in
    let same : c.in-Some.slot ≡ n = same_Some c.in-Some.slot n (sym c.in-Some.is ∙ there ∙ f.number_is) in
    c.in_32_bits.ensures (subst (λ k. k < 2 ^ 32) (sym same) f.fits) ∙ same

pub returns-in-None-clause-instance : goal.returns-in-None-clause-instance
returns-in-None-clause-instance c n e =
    let f = instance_field c.args.self.now.program.now c.args.field n e in
    let there = c.slot.ensures.instance c.args.self.now.program.now c.requires.layout_is f.found.0 f.found.1 f.found_is f.is_instance in
    absurd (none_is_some n (sym c.in-None.is ∙ there ∙ f.slot_is))

pub returns-in-None-clause-static_field : goal.returns-in-None-clause-static_field
returns-in-None-clause-static_field c n e =
    let f = static_field c.args.self.now.program.now c.args.field n e in
    let there = c.slot.ensures.static_field c.args.self.now.program.now c.requires.layout_is f.found.0 f.found.1 f.found_is f.is_static in
    absurd (none_is_some n (sym c.in-None.is ∙ there ∙ f.number_is))

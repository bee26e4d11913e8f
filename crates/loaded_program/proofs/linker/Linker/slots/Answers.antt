use Rattle.std.proofs.Common.{◌≡◌, ◌<◌, ◌^◌, sym, subst, ◌∙◌}
use Rattle.loaded_program.proofs.OperandLaws.{sized}
use Rattle.loaded_program.proofs.linker.Linker.slots.Goals as goal

pub returns : goal.returns
returns c n e =
    let size = sized c.args.self.now.program.now c.args.member n e in
    let same : c.slots.result ≡ n = c.slots.ensures c.args.self.now.program.now c.requires.layout_is size.class size.class_is ∙ size.size_is in
    c.in_32_bits.ensures (subst (λ k. k < 2 ^ 32) (sym same) size.fits) ∙ same

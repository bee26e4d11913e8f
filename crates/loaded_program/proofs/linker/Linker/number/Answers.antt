use Rattle.std.proofs.Common.{◌∙◌}
use Rattle.loaded_program.proofs.OperandLaws.{has_id}
use Rattle.loaded_program.proofs.linker.Linker.number.Goals as goal

pub returns : goal.returns
returns c n e =
    let known = has_id c.args.self.now.program.now c.args.member n e in
    c.number.ensures c.args.self.now.program.now c.requires.flat_numbers known.found known.found_is ∙ known.number_is

use Rattle.loaded_program.proofs.MethodLaws.{has_code, is_linked_at, within_code}
use Rattle.loaded_program.proofs.loaded.LoadedProgram.instruction.Goals as goal

pub code-requires : goal.code-requires
code-requires c = has_code c.args.self.now c.args.method c.args.index c.requires

pub item-requires : goal.item-requires
item-requires c = within_code c.args.self.now c.args.method c.args.index c.requires c.code.result.now c.code.ensures

pub returns : goal.returns
returns c = is_linked_at c.args.self.now c.args.method c.args.index c.requires c.code.result.now c.code.ensures c.item.result.now c.item.ensures

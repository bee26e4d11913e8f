use Rattle.std.specs.Prelude.{Some}
use Rattle.object_memory.specs.contracts.heap.Heap.{the_view}
use Rattle.object_memory.proofs.HeldBirths.{born_decoded}
use Rattle.object_memory.proofs.heap.Heap.birth_in.Goals as goal

pub returns-clause-no_literal : goal.returns-clause-no_literal
returns-clause-no_literal c =
    born_decoded (the_view c.self.inside) c.args.self.now c.self.invariant.spaces c.self.view_is c.args.space c.args.kind c.args.slots c.allocate.new.self (Some c.allocate.result) c.allocate.ensures

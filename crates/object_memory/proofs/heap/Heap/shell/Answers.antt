use Rattle.std.proofs.Common.{◌≡◌, ◌+◌, ◌≤◌, ap, arith}
use Rattle.object_memory.specs.Cells.{free_words}
use Rattle.object_memory.specs.Objects.{new_of}
use Rattle.object_memory.proofs.HeldBirths.{last_is_there, shell_held, shell_is}
use Rattle.object_memory.proofs.heap.Heap.shell.Goals as goal

pub set_copies-requires : goal.set_copies-requires
set_copies-requires c = rw (c.append-copy.ensures.cell, c.append-copy.ensures.address) (last_is_there c.in-Some.cycle.to c.kind-kind.result c.slots-slots.result)

pub invariant_of-self : goal.invariant_of-self
invariant_of-self c =
    let given = rw (← c.self.view_is) at c.requires.room in
    let new : new_of c.self.inside.from c.self.inside.cycle ≡ c.in-Some.cycle.to = ap (new_of c.self.inside.from) c.in-Some.is in
    let free = ap free_words new in
    let room : 3 + c.slots-slots.result ≤ free_words c.in-Some.cycle.to = omega (arith, given, free, c.slots-slots.ensures.slots) in
    rw (c.set_copies-in-Some.ensures, c.set_copies.ensures, c.append-copy.ensures.cell, c.append-copy.ensures.address)
    (shell_held c.self.inside.from c.self.inside.cycle c.in-Some.cycle c.self.invariant c.in-Some.is c.args.address c.kind-kind.result c.slots-slots.result c.is_marked-marked.result
    c.kind-kind.ensures c.slots-slots.ensures.slots c.is_marked-marked.ensures room)

pub returns-in-Some : goal.returns-in-Some
returns-in-Some c = λ x is.
    let given = rw (← c.self.view_is) at c.requires.room in
    let there = rw (← c.self.view_is) at is in
    let new : new_of c.self.inside.from c.self.inside.cycle ≡ c.in-Some.cycle.to = ap (new_of c.self.inside.from) c.in-Some.is in
    let free = ap free_words new in
    let room : 3 + c.slots-slots.result ≤ free_words c.in-Some.cycle.to = omega (arith, given, free, c.slots-slots.ensures.slots) in
    rw (← c.self.view_is, c.set_copies-in-Some.ensures, c.set_copies.ensures, c.append-copy.ensures.cell, c.append-copy.ensures.address)
    (shell_is c.self.inside.from c.self.inside.cycle c.in-Some.cycle c.self.invariant c.in-Some.is c.args.address c.kind-kind.result c.slots-slots.result c.is_marked-marked.result
    c.kind-kind.ensures c.slots-slots.ensures.slots c.is_marked-marked.ensures room x there c.self.inside.literals.items)

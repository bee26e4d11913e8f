use Rattle.std.proofs.Common.{◌≡◌, ◌+◌, ℕ, set, ap, ◌∙◌, arith}
use Rattle.std.proofs.Math.ListN.{length-set}
use Rattle.space_block.specs.Rows.{Row}
use Rattle.object_memory.proofs.Heaps.{room_is, next_is, birth_lays, birth_done}
use Rattle.object_memory.proofs.space.Space.append.Goals as goal

-- The words of the new object are in use after its header is written.
written : (c : goal.After-write) → c.write.new.self ≡ record { words = set c.self.inside.block.words c.self.inside.block.used c.header.result; used = c.self.inside.block.used + (3 + c.args.slots) }
written c =
    c.write.ensures
    ∙ ap (λ (r : Row). record { words = set r.words c.used-offset.result c.header.result; used = r.used }) c.extend.ensures
    ∙ ap (λ (k : ℕ). record { words = set c.self.inside.block.words k c.header.result; used = c.self.inside.block.used + (3 + c.args.slots) }) c.used-offset.ensures

pub extend-requires : goal.extend-requires
extend-requires c =
    let given = rw (← c.self.view_is) at c.requires in
    room_is c.self.inside.start c.self.inside.block.words c.self.inside.block.used c.self.invariant.1 c.args.slots given

pub write-requires : goal.write-requires
write-requires c = rw (c.extend.ensures, c.used-offset.ensures) (omega arith)

pub invariant_of-self : goal.invariant_of-self
invariant_of-self c =
    let inside = c.self.inside in
    let decoded = c.header.ensures in
    let given = rw (← c.self.view_is) at c.requires in
    let room = room_is inside.start inside.block.words inside.block.used c.self.invariant.1 c.args.slots given in
    let new = birth_lays inside.start inside.block.words inside.block.used c.self.invariant.1 c.args.kind c.args.slots c.header.result decoded.word decoded.kind decoded.slots room in
    rw (written c) (rw length-set c.self.invariant.0, new.laid, c.self.invariant.2)

pub returns-clause-cell : goal.returns-clause-cell
returns-clause-cell c =
    let inside = c.self.inside in
    let decoded = c.header.ensures in
    let given = rw (← c.self.view_is) at c.requires in
    let room = room_is inside.start inside.block.words inside.block.used c.self.invariant.1 c.args.slots given in
    rw (← c.self.view_is, written c)
    (birth_done inside.start inside.block.words inside.block.used c.self.invariant.1 c.args.kind c.args.slots c.header.result decoded.word decoded.kind decoded.slots room)

pub returns-clause-address : goal.returns-clause-address
returns-clause-address c =
    rw (← c.self.view_is, c.used-offset.ensures) (next_is c.self.inside.start c.self.inside.block.words c.self.inside.block.used c.self.invariant.1)

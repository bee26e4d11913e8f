use Rattle.std.proofs.Common.{sym, ap, ◌∙◌}
use Rattle.std.specs.Prelude.{is_some}
use Rattle.object_memory.specs.Cells.{Cell}
use Rattle.object_memory.specs.Spaces.{cell_at}
use Rattle.object_memory.proofs.TwoSpaces.TwoBlocks.{new_is_cell}
use Rattle.collector.proofs.Addresses.ObjectsInHeaps.{decoded}
use Rattle.collector.proofs.BlockWalks.Walks.{noted_marked, noted_unmarked}
use Rattle.collector.proofs.walks.is_noted.Goals as goal

pub returns-then-is_marked : goal.returns-then-is_marked
returns-then-is_marked c = λ cell at.
    let m = c.args.heap.now.spaces in
    let marked = decoded (λ (x : Cell). x.marked) (cell_at m c.args.object) cell c.is_marked.result (new_is_cell m c.requires.spaces c.args.object cell at) c.is_marked.ensures in
    c.if-is_marked.true ∙ sym (noted_marked cell (sym marked ∙ c.if-is_marked.true))

pub returns-else-is_marked : goal.returns-else-is_marked
returns-else-is_marked c = λ cell at.
    let m = c.args.heap.now.spaces in
    let there = new_is_cell m c.requires.spaces c.args.object cell at in
    let marked = decoded (λ (x : Cell). x.marked) (cell_at m c.args.object) cell c.is_marked.result there c.is_marked.ensures in
    let other = decoded (λ (x : Cell). x.other) (cell_at m c.args.object) cell c.other.result there c.other.ensures in
    c.is_some.ensures ∙ ap is_some other ∙ sym (noted_unmarked cell (sym marked ∙ c.if-is_marked.false))

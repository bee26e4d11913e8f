use Rattle.std.proofs.Common.{◌≡◌, All}
use Rattle.shared_machine.specs.Worlds.{IsIn}
use Rattle.shared_machine.proofs.world.compare_all.Given as goal

-- once the tickets that are left are in the book, all are
abbrev pub invariant-loop-ticket : goal.invariant-loop-ticket
invariant-loop-ticket g l = (l.book ≡ l.fn.book) × (All (IsIn l.fn.book) l.tickets.items → All (IsIn l.fn.book) l.fn.tickets.items)

abbrev pub decreases-loop-ticket : goal.decreases-loop-ticket
decreases-loop-ticket g l = goal.left-loop-ticket g l

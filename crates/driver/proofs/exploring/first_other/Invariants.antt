use Rattle.std.proofs.Common.{◌≡◌, None, take}
use Rattle.driver.proofs.Names.{first_other_in}
use Rattle.driver.proofs.exploring.first_other.Given as goal

-- the outcomes so far do not differ
abbrev pub invariant-loop-index : goal.invariant-loop-index
invariant-loop-index l = first_other_in l.first.printed.items (take l.index l.found) ≡ None

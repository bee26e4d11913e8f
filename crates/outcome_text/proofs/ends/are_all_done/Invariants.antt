use Rattle.std.proofs.Common.{◌≡◌, take, true}
use Rattle.std.specs.List.{list_all}
use Rattle.outcome_text.specs.Outcomes.{is_done}
use Rattle.outcome_text.proofs.ends.are_all_done.Given as goal

-- the threads so far are done
abbrev pub invariant-loop-end : goal.invariant-loop-end
invariant-loop-end l = list_all is_done (take l.end-index l.ends) ≡ true

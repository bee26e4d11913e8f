use Rattle.outcome_search.proofs.exploring.has_found_all.Goals as goal

pub returns : goal.returns
returns g c = λ known. (_, c.in_ok-is_complete.ensures known)

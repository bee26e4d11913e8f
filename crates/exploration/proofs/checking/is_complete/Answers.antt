use Rattle.exploration.proofs.Paths.{both_ok}
use Rattle.exploration.proofs.checking.is_complete.Goals as goal

pub returns : goal.returns
returns g c = both_ok c.check_paths.result c.check_paths.ensures.closed c.check_paths.ensures.only (λ yes closed only known. record {
  closed = closed known;
  initial = c.in_ok-is_covered.ensures c.if-not-is_covered.false;
  only = only known;
})

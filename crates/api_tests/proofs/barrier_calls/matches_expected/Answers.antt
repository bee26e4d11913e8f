use Rattle.api_tests.proofs.BarrierTest.{seen}
use Rattle.api_tests.proofs.barrier_calls.matches_expected.Goals as goal

pub observe-requires : goal.observe-requires
observe-requires c = seen c.args.expected.now.phase c.store_others-born.new.heap c.store_others-born.result c.store_others-born.ensures

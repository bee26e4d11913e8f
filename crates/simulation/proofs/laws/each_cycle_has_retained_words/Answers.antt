use Rattle.simulation.proofs.RetainedWords.NewestCycles.{cycle_retains, end_retains, retained_once}
use Rattle.simulation.proofs.Runs.EventCorrespondence.{each_alike}
use Rattle.simulation.proofs.laws.each_cycle_has_retained_words.Goals as goal

pub returns : goal.returns
returns c = record {
  begun = λ tree accepted limits in_range events reports s h earlier later split. cycle_retains each_alike tree accepted limits in_range events reports s h earlier later split;
  ended = λ tree accepted limits in_range events reports s h most over. end_retains each_alike tree accepted limits in_range events reports s h most over;
  one = retained_once;
}

use Rattle.schedule_text.specs.Items.{words}
use Rattle.schedule_text.proofs.AnswerLemmas.{no_fault_read, same_events, same_first_fault}
use Rattle.schedule_text.proofs.laws.one_answer.Goals as goal

pub returns : goal.returns
returns c = record {
  one_list = λ text events others. same_events (words text) events others;
  one_fault = λ text error other. same_first_fault (words text) error other;
  not_both = λ text events error. no_fault_read (words text) events error;
}

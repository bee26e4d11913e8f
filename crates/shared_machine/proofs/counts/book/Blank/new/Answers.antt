use Rattle.shared_machine.proofs.Moves.{begins}
use Rattle.shared_machine.proofs.counts.book.Blank.new.Goals as goal

pub of_words-requires : goal.of_words-requires
of_words-requires c = begins

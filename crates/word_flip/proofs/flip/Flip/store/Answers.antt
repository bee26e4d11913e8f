use Rattle.std.proofs.Common.{rules}
use Rattle.word_flip.proofs.ObjectWords.{one_more, written_to}
use Rattle.word_flip.proofs.flip.Flip.store.Goals as goal

pub returns-then-taken_up-lt-RECLAIM : goal.returns-then-taken_up-lt-RECLAIM
returns-then-taken_up-lt-RECLAIM c = rw (c.store_second-token.ensures, c.store_first-token.ensures, one_more _ _ _, written_to _ _ _ _ c.word_of-word.ensures.names, c.index-index.ensures.index) (search rules)

pub returns : goal.returns
returns c = rw (c.store_alone-token.ensures, one_more _ _ _, written_to _ _ _ _ c.word_of-word.ensures.names, c.index-index.ensures.index) (search rules)

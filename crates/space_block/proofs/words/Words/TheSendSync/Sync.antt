use denote.Param.Send.{IsSync}
use Rattle.space_block.proofs.SendAndSync.{words_sync}
use Rattle.space_block.specs.contracts.words.Words.{the_row}

pub sync : IsSync the_row
sync = words_sync

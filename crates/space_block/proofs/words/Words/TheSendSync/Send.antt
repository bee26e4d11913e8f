use denote.Param.Send.{IsSend}
use Rattle.space_block.proofs.SendAndSync.{words_send}
use Rattle.space_block.specs.contracts.words.Words.{the_row}

pub send : IsSend the_row
send = words_send

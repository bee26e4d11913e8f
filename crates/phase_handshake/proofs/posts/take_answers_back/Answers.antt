use Rattle.std.proofs.Common.{rules}
use Rattle.std.proofs.lemmas.List.Edits.{map_over_more}
use Rattle.phase_handshake.specs.Handshakes.{clear_answer}
use Rattle.phase_handshake.proofs.posts.take_answers_back.Goals as goal

pub loop-seat-preserved : goal.loop-seat-preserved
loop-seat-preserved c = search (rules, map_over_more clear_answer)

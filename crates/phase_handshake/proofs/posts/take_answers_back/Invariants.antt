use Rattle.std.proofs.Common.{◌≡◌, ◌++◌, take, drop}
use Rattle.std.specs.Prelude.{map}
use Rattle.phase_handshake.specs.Handshakes.{clear_answer}
use Rattle.phase_handshake.proofs.posts.take_answers_back.Given as goal

abbrev pub invariant-loop-seat : goal.invariant-loop-seat
invariant-loop-seat l = l.seats ≡ map clear_answer (take l.seat-index l.fn.seats) ++ drop l.seat-index l.fn.seats

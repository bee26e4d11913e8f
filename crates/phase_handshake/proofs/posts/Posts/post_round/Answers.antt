use Rattle.phase_handshake.proofs.Closeness.{round_close}
use Rattle.phase_handshake.proofs.posts.Posts.post_round.Goals as goal

pub invariant_of-self : goal.invariant_of-self
invariant_of-self c = (rw c.take_answers_back.ensures (round_close _ (c.self.invariant.0)), c.have_seen-self-inside.ensures)

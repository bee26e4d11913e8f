use Rattle.phase_handshake.proofs.Closeness.{left_close}
use Rattle.phase_handshake.proofs.posts.Posts.leave.Goals as goal

pub invariant_of-self : goal.invariant_of-self
invariant_of-self c = (left_close _ (c.self.invariant.0) _, c.have_seen-self-inside.ensures)

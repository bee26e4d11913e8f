use Rattle.phase_handshake.proofs.Closeness.{joined_close}
use Rattle.phase_handshake.proofs.posts.Posts.join.Goals as goal

pub invariant_of-self : goal.invariant_of-self
invariant_of-self c = (rw (c.seat-seat.ensures, ← c.self.view_is) (joined_close _ (c.self.invariant.0) _ c.args.starter), c.have_seen-self-inside.ensures)

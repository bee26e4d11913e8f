use Rattle.std.proofs.Common.{◌≡◌, true, sym, ap, ◌∙◌}
use Rattle.phase_handshake.specs.Handshakes.{is_open_to, seat_of}
use Rattle.phase_handshake.proofs.Closeness.{answered_close}
use Rattle.phase_handshake.proofs.posts.Posts.acknowledge.Goals as goal

pub invariant_of-self : goal.invariant_of-self
invariant_of-self c =
    let here = ap (λ h. seat_of h c.args.thread) c.self.view_is ∙ sym c.seat.ensures ∙ c.in-Some.is in
    let opened : is_open_to c.self.inside.posted_phase c.self.inside.has_round c.in-Some.seat ≡ true = sym c.is_open.ensures ∙ c.if-not-is_open.false in
    (rw (c.from.ensures, c.after.ensures) (answered_close _ (c.self.invariant.0) c.args.thread c.in-Some.seat here opened), c.have_seen-self-inside.ensures)

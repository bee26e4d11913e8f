use Rattle.std.proofs.Common.{ap, sym, ◌∙◌}
use Rattle.std.specs.List.{list_all}
use Rattle.phase_handshake.specs.Handshakes.{all_seen, has_seen}
use Rattle.phase_handshake.proofs.Closeness.{cycle_close, phase_close}
use Rattle.phase_handshake.proofs.posts.Posts.post.Goals as goal
use Rattle.phase_handshake.proofs.posts.Posts.post.Goals.{then-eq, else-eq}

pub invariant_of-self : goal.invariant_of-self
invariant_of-self c = elim c.if-eq.branch [ then-eq w ↦ (rw (w.self-inside-is, c.requires.next, ← c.self.view_is, w.take_answers_back.ensures) (cycle_close _ (c.self.invariant.0) (ap all_seen c.self.view_is ∙ c.requires.seen)), c.have_seen-self-inside.ensures ∙ ap (λ p. list_all (has_seen p) c.if-eq.self-inside.seats) (sym (ap (λ i. i.posted_phase) w.self-inside-is))) | else-eq w ↦ (rw (w.self-inside-is, c.requires.next, ← c.self.view_is) (phase_close _ (c.self.invariant.0) (ap all_seen c.self.view_is ∙ c.requires.seen)), c.have_seen-self-inside.ensures ∙ ap (λ p. list_all (has_seen p) c.if-eq.self-inside.seats) (sym (ap (λ i. i.posted_phase) w.self-inside-is))) ]

use Rattle.std.proofs.Common.{ℕ, refl, inl, inr, subst}
use Rattle.driver.proofs.Names.{Fails, Takes, handed_on, flip_text, output_state}
use Rattle.driver.proofs.OutcomeLemmas.{no_device, nothing_written, write_failed}
use Rattle.driver.proofs.driving.run_flip.Goals as goal

pub returns-then-outcome-clause-done : goal.returns-then-outcome-clause-done
returns-then-outcome-clause-done g c = let outcome = c.in_ok-outcome.outcome in (
  outcome.retired,
  subst (λ (kept : ℕ). Takes (g.W.Out.taken c.args.outputs.now.out) (g.W.Out.taken c.show_flip.new.out) (flip_text kept outcome.retired)) c.in_ok-outcome.ensures.kept c.in_ok-show_flip.ensures.whole,
  inr (refl, c.in_ok-outcome.ensures.retired c.if-outcome.true),
  refl,
  refl,
)

pub returns-else-outcome-clause-done : goal.returns-else-outcome-clause-done
returns-else-outcome-clause-done g c = let outcome = c.in_ok-outcome.outcome in (
  outcome.retired,
  subst (λ (kept : ℕ). Takes (g.W.Out.taken c.args.outputs.now.out) (g.W.Out.taken c.show_flip.new.out) (flip_text kept outcome.retired)) c.in_ok-outcome.ensures.kept c.in_ok-show_flip.ensures.whole,
  inl refl,
  refl,
  refl,
)

pub returns-in_err-outcome-clause-given_up : goal.returns-in_err-outcome-clause-given_up
returns-in_err-outcome-clause-given_up g c =
    let at = output_state g.W.Out.taken g.E.Out.taken in
    handed_on c.from_residual.result c.from_residual.ensures.1 (λ failure memory.
    nothing_written (at c.args.outputs.now) (at c.args.outputs.now) failure (inl memory) (no_device failure memory) (refl, refl) refl)

pub returns-in_err-show_flip-clause-given_up : goal.returns-in_err-show_flip-clause-given_up
returns-in_err-show_flip-clause-given_up g c =
    let at = output_state g.W.Out.taken g.E.Out.taken in
    let outcome = c.in_ok-outcome.outcome in
    let o = at c.args.outputs.now in
    let out = g.W.Out.taken c.show_flip.new.out in
    let cut = subst (λ (kept : ℕ). Fails o.out out (flip_text kept outcome.retired)) c.in_ok-outcome.ensures.kept c.in_err-show_flip.ensures.cut in
    handed_on c.from_residual-in_err-show_flip.result c.from_residual-in_err-show_flip.ensures.1 (λ failure is.
    write_failed o (record o { out = out }) failure (inr is) (inr is) (inl cut.1) ((outcome.retired, cut), refl) refl)

use Rattle.std.proofs.Common.{◌≡◌, ◌+◌, ◌-◌, ◌∷◌, drop, sym, ap, ◌∙◌, arith}
use Rattle.verifier.proofs.KeptLaws.{left_with}
use Rattle.verifier.proofs.stacks.stack_of.Goals as goal

pub loop-pc-preserved : goal.loop-pc-preserved
loop-pc-preserved c =
    let above : c.loop-pc.pc - 1 + 1 ≡ c.loop-pc.pc = omega (arith, c.loop-pc-test.true) in
    c.in_ok-push.ensures.pushed ∙ ap (λ s. c.entry.result ∷ s) (c.loop-pc.invariant ∙ ap (λ n. drop n c.args.kept.now) (sym above)) ∙ sym (left_with c.args.kept.now (c.loop-pc.pc - 1) c.entry.result c.entry.ensures)

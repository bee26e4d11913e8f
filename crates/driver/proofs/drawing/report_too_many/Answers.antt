use Rattle.std.proofs.Common.{◌∙◌, inl, inr, refl, subst}
use Rattle.driver.proofs.Names.{handed_on, on_err, Fails, Takes}
use Rattle.driver.proofs.OutcomeLemmas.{no_device}
use Rattle.driver.proofs.drawing.report_too_many.Goals as goal

pub returns-in_err-line-clause-cut : goal.returns-in_err-line-clause-cut
returns-in_err-line-clause-cut g c = on_err c.from_residual.result (inl refl)

pub returns-in_err-line-clause-device : goal.returns-in_err-line-clause-device
returns-in_err-line-clause-device g c = handed_on c.from_residual.result c.from_residual.ensures.1 (λ failure memory device. absurd (no_device failure memory device))

pub returns-in_err-write_whole-clause-cut : goal.returns-in_err-write_whole-clause-cut
returns-in_err-write_whole-clause-cut g c =
    on_err c.from_residual-in_err-write_whole.result
    (inr (subst (Fails (g.E.Out.taken c.args.err.now) (g.E.Out.taken c.write_whole.new.self)) (c.as_bytes.ensures.value ∙ c.in_ok-line.ensures) c.in_err-write_whole.ensures.cut))

pub returns-in_err-write_whole-clause-device : goal.returns-in_err-write_whole-clause-device
returns-in_err-write_whole-clause-device g c =
    handed_on c.from_residual-in_err-write_whole.result c.from_residual-in_err-write_whole.ensures.1 (λ failure is device. c.in_err-write_whole.ensures.cut.1)

pub returns-clause-whole : goal.returns-clause-whole
returns-clause-whole g c =
    (refl, subst (Takes (g.E.Out.taken c.args.err.now) (g.E.Out.taken c.write_whole.new.self)) (c.as_bytes.ensures.value ∙ c.in_ok-line.ensures) c.in_ok-write_whole.ensures.whole)

use Rattle.std.proofs.Common.{◌∙◌, inl, inr, refl, subst, sym}
use Rattle.driver.proofs.Names.{IsNotChecked, output_state, handed_on}
use Rattle.driver.proofs.OutcomeLemmas.{notes_break, nothing_written, write_failed}
use Rattle.driver.proofs.Refusals.{not_accepted}
use Rattle.driver.proofs.driving.check.Goals as goal

pub returns-in_err-accept-clause-given_up : goal.returns-in_err-accept-clause-given_up
returns-in_err-accept-clause-given_up g c =
    let at = output_state g.W.Out.taken g.E.Out.taken in
    handed_on c.from_residual.result c.from_residual.ensures.1 (λ failure same.
    nothing_written (at c.args.outputs.now) (at c.args.outputs.now) failure (subst (IsNotChecked c.args.source.now) (sym same) (inl c.in_err-accept.ensures.refused))
    (λ device. not_accepted c.args.source.now _ c.in_err-accept.ensures.refused (sym same ∙ device)) (refl, refl) refl)

pub returns-in_err-say_accepted-clause-given_up : goal.returns-in_err-say_accepted-clause-given_up
returns-in_err-say_accepted-clause-given_up g c =
    let at = output_state g.W.Out.taken g.E.Out.taken in
    let accepted = c.in_ok-accept.ensures.accepted in
    let cut = c.in_err-say_accepted.ensures.cut in
    handed_on c.from_residual-in_err-say_accepted.result c.from_residual-in_err-say_accepted.ensures.1 (λ failure is.
    write_failed (at c.args.outputs.now) (record (at c.args.outputs.now) { out = g.W.Out.taken c.say_accepted.new.out }) failure (inr (accepted, inr is)) (inr is) (inl cut.1) (accepted, inl (cut, refl)) refl)

pub returns-in_err-show_notes-clause-given_up : goal.returns-in_err-show_notes-clause-given_up
returns-in_err-show_notes-clause-given_up g c =
    let at = output_state g.W.Out.taken g.E.Out.taken in
    let accepted = c.in_ok-accept.ensures.accepted in
    let cut = c.in_err-show_notes.ensures.cut in
    handed_on c.from_residual-in_err-show_notes.result c.from_residual-in_err-show_notes.ensures.1 (λ failure is.
    write_failed (at c.args.outputs.now) (record (at c.args.outputs.now) { out = g.W.Out.taken c.say_accepted.new.out; err = g.E.Out.taken c.show_notes.new.err }) failure (inr (accepted, inr is)) (inr is)
    (inr (notes_break c.args.explain _ _ cut)) (accepted, inr (c.in_ok-say_accepted.ensures.whole, cut)) refl)

use Rattle.std.proofs.Common.{◌∙◌, ap, inl, inr, subst}
use Rattle.std.specs.Prelude.{string_bytes}
use Rattle.schedule_text.specs.Items.{events_of}
use Rattle.schedule_text.specs.Writings.{IsNotWritten, IsWritten}
use Rattle.outcome_text.proofs.ScheduleLemmas.{if_ok, not_writable}
use Rattle.outcome_text.proofs.outcomes.schedule_text.Goals as goal

pub returns-in-Ok : goal.returns-in-Ok
returns-in-Ok c =
    let same = ap events_of c.deref.ensures.value ∙ c.in_ok-items.ensures in
    inl (subst (λ events. IsWritten events (string_bytes c.in-Ok.schedule)) same c.in-Ok.ensures)

pub returns : goal.returns
returns c =
    let same = ap events_of c.deref.ensures.value ∙ c.in_ok-items.ensures in
    let not = subst (λ events. IsNotWritten events c.in-Err.error) same c.in-Err.ensures in
    if_ok c.no_text.result c.no_text.ensures (λ text none. inr (not_writable c.args.events.now c.in-Err.error none.0 not, none.1))

use Rattle.std.proofs.Common.{◌∙◌, ap, subst}
use Rattle.cilvm_c.specs.Steps.{HasDoneOne}
use Rattle.cilvm_c.proofs.SessionLaws.{event_closed, event_open}
use Rattle.cilvm_c.specs.contracts.sessions.Session.{the_view}
use Rattle.cilvm_c.proofs.sessions.Session.event.Goals.{in-None, in-Some}
use Rattle.cilvm_c.proofs.sessions.Session.event.Goals as goal

pub returns : goal.returns
returns c =
    let inside = c.self.inside in
    subst (λ h. HasDoneOne c.args.event h c.match-self.result (the_view c.match-self.self-inside)) c.self.view_is
    (elim c.match-self.branch [
      | in-None w ↦ event_closed (the_view inside) _ _ w.in-None.is (w.result-is ∙ w.number_of.ensures) (ap the_view w.self-inside-is) c.args.event
      | in-Some w ↦ let acts = w.act_by_number.ensures in
          event_open (the_view inside) _ _ w.in-Some.machine w.act_by_number.new.machine acts.0 w.in-Some.is (w.result-is ∙ acts.1) (ap the_view w.self-inside-is) c.args.event acts.2
    ])

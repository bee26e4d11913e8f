use Rattle.std.proofs.Common.{◌∙◌, ap, subst, sym}
use Rattle.cilvm_c.specs.Steps.{HasStepped, MakesSteps}
use Rattle.cilvm_c.proofs.SessionLaws.{steps_closed, steps_open}
use Rattle.cilvm_c.specs.contracts.sessions.Session.{the_view}
use Rattle.cilvm_c.proofs.sessions.Session.steps.Goals.{in-None, in-Some}
use Rattle.cilvm_c.proofs.sessions.Session.steps.Goals as goal

pub returns : goal.returns
returns c =
    let inside = c.self.inside in
    subst (λ h. HasStepped c.args.thread h c.args.most c.match-self.done c.match-self.result (the_view c.match-self.self-inside)) c.self.view_is
    (elim c.match-self.branch [
      | in-None w ↦ steps_closed (the_view inside) _ _ w.in-None.is (w.result-is ∙ w.number_of.ensures) (ap the_view w.self-inside-is) c.args.thread c.args.most c.match-self.done w.done-is
      | in-Some w ↦ let makes = w.make_steps.ensures in
          steps_open (the_view inside) _ _ w.in-Some.machine w.make_steps.new.machine makes.0 w.in-Some.is (w.result-is ∙ makes.1) (ap the_view w.self-inside-is) c.args.thread c.args.most c.match-self.done
          (subst (λ n. MakesSteps w.in-Some.machine inside.most_printed c.args.thread c.args.most n makes.0 w.make_steps.new.machine) (sym w.done-is) makes.2)
    ])

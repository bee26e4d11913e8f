use Rattle.std.proofs.Common.{refl, subst}
use Rattle.cilvm_c.specs.Sessions.{with_machine}
use Rattle.cilvm_c.specs.Steps.{HasRunText}
use Rattle.cilvm_c.proofs.SessionLaws.{run_open}
use Rattle.cilvm_c.specs.contracts.sessions.Session.{the_view}
use Rattle.cilvm_c.proofs.sessions.Session.run.Goals as goal

pub returns-in-Ok : goal.returns-in-Ok
returns-in-Ok c =
    subst (λ h. HasRunText c.args.text.now h c.run_text.new.done c.number_of-in-Ok.result (with_machine (the_view c.self.inside) c.run_text.new.machine)) c.self.view_is
    (run_open (the_view c.self.inside) _ _ c.in-Some.machine c.run_text.new.machine c.in-Ok.code c.in-Some.is c.number_of-in-Ok.ensures refl c.args.text.now c.run_text.new.done c.in-Ok.ensures.ran)

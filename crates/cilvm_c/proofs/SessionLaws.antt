-- What a session does, where it is known whether it is closed.
use Rattle.std.proofs.Common.{◌≡◌, ℕ, List, Some, None, inr, subst, sym}
use Rattle.cil_model.specs.declared.events.Event.{Event}
use Rattle.interleaving_core.specs.simulation.MachineStates.{MachineState}
use Rattle.cilvm_c.specs.Codes.{number_of}
use Rattle.cilvm_c.specs.Sessions.{SessionState, with_machine}
use Rattle.cilvm_c.specs.Steps.{Acts, HasDoneOne, HasDoneOneBy, HasRunText, HasRunBy, HasStepped, HasSteppedBy, IsTextRun, MakesSteps}
use Rattle.cilvm_c.specs.declared.codes.Code.{Code}
use Rattle.cilvm_c.specs.declared.codes.Code.TheVariants.{Closed}

module _ (h new : SessionState) (code : ℕ) (none : h.machine ≡ None) (is : code ≡ number_of Closed) (same : new ≡ h) where
  pub event_closed : (e : Event) → HasDoneOne e h code new
  event_closed e = subst (λ m. HasDoneOneBy e h m code new) (sym none) (is, same)

  pub steps_closed : (t most done : ℕ) → done ≡ 0 → HasStepped t h most done code new
  steps_closed t most done nothing = subst (λ m. HasSteppedBy t h m most done code new) (sym none) (is, nothing, same)

module _ (h new : SessionState) (code : ℕ) (c after : MachineState) (answer : Code) (some : h.machine ≡ Some c) (is : code ≡ number_of answer) (same : new ≡ with_machine h after) where
  pub event_open : (e : Event) → Acts c h.most_printed e answer after → HasDoneOne e h code new
  event_open e acts = subst (λ m. HasDoneOneBy e h m code new) (sym some) (answer, after, is, same, acts)

  pub steps_open : (t most done : ℕ) → MakesSteps c h.most_printed t most done answer after → HasStepped t h most done code new
  steps_open t most done makes = subst (λ m. HasSteppedBy t h m most done code new) (sym some) (answer, after, is, same, makes)

  pub run_open : (text : List ℕ) (done : ℕ) → IsTextRun c h.most_printed text done answer after → HasRunText text h done code new
  run_open text done ran = subst (λ m. HasRunBy text h m done code new) (sym some) (inr (answer, after, is, same, ran))

use Rattle.std.proofs.Common.{◌≡◌, ◌↔◌, ℕ, true, false, sym, ◌∙◌, subst}
use Rattle.std.specs.Prelude.{is_some}
use Rattle.interpreter.specs.cil_model.declared.reports.Report.{Report}
use Rattle.interpreter.specs.cil_model.declared.reports.Report.TheVariants.{Acked}
use Rattle.collector.specs.phase_handshake.Handshakes.{is_open, own_phase, seat_of}
use Rattle.interpreter.specs.threads_monitors.Threads.{is_live_at}
use Rattle.simulation.specs.MachineStates.{MachineState}
use Rattle.simulation.specs.Sound.{AreSeated}
use Rattle.simulation.proofs.CollectorEvents.WaitsAndInitialStates.{acked_where_open, acknowledges_phase, answers_once}
use Rattle.simulation.proofs.laws.an_acknowledgement_is_answered_once.Goals as goal

has_seat : (c : MachineState) → AreSeated c.posts c.threads → (t : ℕ) → is_live_at c.threads t ≡ true → is_some (seat_of c.posts t) ≡ true
has_seat c seated t lives = sym (seated.live t) ∙ lives

pub returns : goal.returns
returns c = record {
  counts = λ here t after r transition. subst (λ (x : MachineState × Report). (x.1 ≡ Acked) ↔ (is_open here.posts t ≡ true)) (sym transition) (acked_where_open here t);
  phase = λ here seated t lives after r transition late. subst (λ (x : MachineState × Report). own_phase x.0.posts t ≡ x.0.posts.posted_phase) (sym transition) (acknowledges_phase here.posts t (has_seat here seated t lives) late);
  round = λ here seated t lives after r transition now. subst (λ (x : MachineState × Report). is_open x.0.posts t ≡ false) (sym transition) (answers_once here.posts t (has_seat here seated t lives) now);
}

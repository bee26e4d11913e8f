-- What an event of the collector never changes, and that a machine represents the same state after it.
use Rattle.std.proofs.Common.{◌≡◌, refl, sym, subst}
use Rattle.std.specs.Prelude.{IsTrue}
use Rattle.interpreter.specs.cil_model.declared.limits.Limits.{Limits}
use Rattle.interpreter.specs.cil_model.declared.phases.Phase.{Phase}
use Rattle.interpreter.specs.cil_model.declared.reports.Report.{Report}
use Rattle.interpreter.specs.cil_model.declared.trees.Tree.{Tree}
use Rattle.interpreter.specs.cil_model.Ranges.{are_in_range}
use Rattle.interpreter.specs.cil_model.Typings.{IsAccepted}
use Rattle.interpreter.specs.reference_machine.States.{State}
use Rattle.reference_machine.specs.TypedStates.{IsTyped}
use Rattle.simulation.specs.Counts.{IsCounted}
use Rattle.simulation.specs.MachineStates.{MachineState}
use Rattle.simulation.specs.CollectorSteps.{collect}
use Rattle.simulation.specs.Refines.{Names, Represents, RefinesUnder}
use Rattle.simulation.proofs.CollectorEvents.Soundness.{collected_soundly}
use Rattle.simulation.proofs.CollectorEvents.RepresentedObjects.{collected_refines}
use Rattle.simulation.proofs.Representation.NormalNames.{IsNormal}
use Rattle.simulation.proofs.CollectorEvents.EventCases.{IsWork, by_cases, opens_cycle}

-- a machine keeps the same program, limits and threads, and has printed the same
pub record KeepsRest (c d : MachineState) : Type 0 where
  pub tree : d.tree ≡ c.tree
  pub limits : d.limits ≡ c.limits
  pub threads : d.threads ≡ c.threads
  pub printed : d.printed ≡ c.printed

module _ (c : MachineState) where
  -- in each phase
  work_keeps : (x : Phase) (after : MachineState × Report) → IsWork c x after → KeepsRest c after.0
  work_keeps _ _ opens_cycle = record { tree = refl; limits = refl; threads = refl; printed = refl }
  work_keeps _ _ _ = record { tree = refl; limits = refl; threads = refl; printed = refl }

  -- and so in all
  pub collected_keeps : KeepsRest c (collect c).0
  collected_keeps = by_cases c (λ x. KeepsRest c x.0) (λ seen. work_keeps c.posts.posted_phase) (λ late. record { tree = refl; limits = refl; threads = refl; printed = refl })

-- a machine that represents a state under names of what is live represents it after an event of the collector
pub collected_represents : (c : MachineState) (s : State) → Represents c s → (name : Names) → IsNormal c.posts.posted_phase c.objects.spaces name → RefinesUnder name c s → Represents (collect c).0 s
collected_represents c s r name normal refines =
    let keeps = collected_keeps c in
    record {
      accepted = subst (λ (t : Tree). IsAccepted t) (sym keeps.tree) r.accepted;
      limits = subst (λ (l : Limits). IsTrue (are_in_range l)) (sym keeps.limits) r.limits;
      typed = subst (λ (t : Tree). IsTyped t s) (sym keeps.tree) r.typed;
      counted = subst (λ (l : Limits). IsCounted l s) (sym keeps.limits) r.counted;
      sound = collected_soundly c r.sound;
      refines = record { name = name; by = collected_refines name c s r.sound normal refines };
    }

-- What the report of a collector's event says: it waits and nothing changes, or it worked and a cycle is open, or a cycle is over and the new block
-- is the only one.
use Rattle.std.proofs.Common.{◌≡◌, true, refl}
use Rattle.interpreter.specs.cil_model.declared.phases.Phase.{Phase}
use Rattle.interpreter.specs.cil_model.declared.phases.Phase.TheVariants.{Idle, Reclaim}
use Rattle.interpreter.specs.cil_model.declared.reports.Report.{Report}
use Rattle.interpreter.specs.cil_model.declared.reports.Report.TheVariants.{CycleDone, Waiting, Worked}
use Rattle.interpreter.specs.object_memory.Spaces.{close_cycle}
use Rattle.collector.specs.Phases.{is_of_cycle}
use Rattle.simulation.specs.CollectorSteps.{collect, cycle_ended}
use Rattle.simulation.specs.MachineStates.{MachineState}
use Rattle.simulation.proofs.CollectorEvents.EventCases.{IsWork, by_cases, ends_cycle, posting, waits_for_round}

-- what results from an event, with its report
pub data IsCollected (c : MachineState) : MachineState × Report → Type 0 where
  waits : IsCollected c (c, Waiting)
  works : (d : MachineState) → is_of_cycle d.posts.posted_phase ≡ true → IsCollected c (d, Worked)
  ends : (d : MachineState) → c.posts.posted_phase ≡ Reclaim → d.posts.posted_phase ≡ Idle → d.objects.spaces ≡ close_cycle c.objects.spaces → IsCollected c (d, CycleDone)

module _ (c : MachineState) where
  work_reports : (x : Phase) (after : MachineState × Report) → IsWork c x after → IsCollected (posting x c) after
  work_reports _ _ (waits_for_round late) = waits
  work_reports _ _ (ends_cycle over) = ends (cycle_ended (posting Reclaim c)) refl refl refl
  work_reports _ (d, _) _ = works d refl

  -- each event is one of the three
  pub collected_is : IsCollected c (collect c)
  collected_is = by_cases c (IsCollected c) (λ seen. work_reports c.posts.posted_phase) (λ late. waits)

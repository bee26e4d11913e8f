-- Each transition of a machine adds its event and its report to what the machine has done.
use Rattle.std.proofs.Common.{◌≡◌, ◌<◌, List, [], ◌∷◌, ◌++◌, Some, true, arith, refl, subst, sym}
use Rattle.cil_model.specs.Ranges.{are_in_range}
use Rattle.cil_model.specs.Typings.{IsAccepted}
use Rattle.cil_model.specs.declared.events.Event.{Event}
use Rattle.cil_model.specs.declared.limits.Limits.{Limits}
use Rattle.cil_model.specs.declared.reports.Report.{Report}
use Rattle.cil_model.specs.declared.trees.Tree.{Tree}
use Rattle.simulation.specs.MachineStates.{MachineState}
use Rattle.simulation.specs.Runs.{AreTransitions, RefinesAfter}
use Rattle.simulation.specs.Transitions.{IsTransition, initial_machine_state}
use Rattle.simulation.proofs.CycleBounds.BoundedCycles.{cycles_bounded}
use Rattle.simulation.proofs.CycleBounds.OpenCycles.{opened_is}
use Rattle.simulation.proofs.RetainedWords.CycleEnds.{leaves_retained}
use Rattle.simulation.proofs.Runs.EventCorrespondence.{each_alike}
use Rattle.simulation.proofs.Representation.VisibleState.{occurs_after}
use Rattle.interleaving_core.specs.Histories.{DoesMore, HasDone}
use Rattle.interleaving_core.proofs.Runs.FollowedRuns.{transitions_follow, transitions_length, transitions_program}
use Rattle.interleaving_core.proofs.Threads.LiveThreads.{some_budget}
use Rattle.interleaving_core.proofs.Runs.RepresentedStates.{opened_represents}

-- transitions after transitions
transitions_after : (a c n : MachineState) (es : List Event) (rs : List Report) (fs : List Event) (ss : List Report) → AreTransitions a es c rs → AreTransitions c fs n ss → AreTransitions a (es ++ fs) n (rs ++ ss)
transitions_after a c n [] rs fs ss h more = subst (λ x. AreTransitions x fs n (rs ++ ss)) h.0 (subst (λ l. AreTransitions c fs n (l ++ ss)) (sym h.1) more)
transitions_after a c n (e ∷ es) (r ∷ rs) fs ss h more = (h.0, h.1, transitions_after h.0 c n es rs fs ss h.2 more)
transitions_after a c n (e ∷ es) [] fs ss h more = elim h [ ]

-- all that transitions from the initial state show
pub has_done : (tree : Tree) (limits : Limits) (first c : MachineState) (events : List Event) (reports : List Report) → IsAccepted tree → are_in_range limits ≡ true → initial_machine_state tree limits ≡ Some first →
    AreTransitions first events c reports → HasDone tree limits events reports c
has_done tree limits first c events reports accepted in_range opens transitions =
    let opened = opened_represents tree limits accepted in_range first opens in
    let own = opened_is tree limits first opens in
    let some : 0 < limits.budget = subst (λ (l : Limits). 0 < l.budget) own.limits_are (let least = some_budget first opened.0 opened.2 in omega (arith, least)) in
    let refines : RefinesAfter tree limits events reports c =
    occurs_after tree limits first c events reports opened.0 opened.1 opens opened.2 own.tree_is own.limits_are (transitions_program first c events reports transitions).1 some
    (transitions_length first c events reports transitions) (transitions_follow first c events reports transitions) in
    record {
      accepted = accepted;
      in_range = in_range;
      first = first;
      opens = opens;
      transitions = transitions;
      refines = refines;
      bounded = cycles_bounded tree limits accepted in_range events reports refines.state refines.is_run;
      leaves = leaves_retained each_alike tree accepted limits in_range events reports c refines;
    }

-- so with more transitions
pub does_more : (c n : MachineState) (events : List Event) (reports : List Report) → AreTransitions c events n reports → DoesMore c events reports n
does_more c n events reports transitions tree limits before given h =
    has_done tree limits h.first n (before ++ events) (given ++ reports) h.accepted h.in_range h.opens (transitions_after h.first c n before given events reports h.transitions transitions)

-- and with one
pub does_one : (c n : MachineState) (e : Event) (r : Report) → IsTransition c e (n, r) → DoesMore c (e ∷ []) (r ∷ []) n
does_one c n e r transition = does_more c n (e ∷ []) (r ∷ []) (n, transition, (refl, refl))

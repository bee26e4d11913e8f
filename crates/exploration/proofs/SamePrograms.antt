-- Machines of one program stay so.
use Rattle.std.proofs.Common.{◌≡◌, Some, Result, Ok, Err, sym, ap, ◌∙◌, subst}
use Rattle.std.specs.Prelude.{OnErr, OnOk}
use Rattle.interleaving_core.specs.simulation.cil_model.declared.memory.NoMemory.{NoMemory}
use Rattle.exploration.proofs.Names.{same_Some, Limits, Tree, MachineState, initial_machine_state}
use Rattle.exploration.specs.InitialStates.{HasInitialState}
use Rattle.exploration.proofs.CoveredRuns.{opened_of}

-- the same program and limits
pub initial_program : (c first : MachineState) → HasInitialState c first → (c.tree ≡ first.tree) × (c.limits ≡ first.limits)
initial_program c first h = let of = opened_of c.tree c.limits first h in (sym of.0, sym of.1)

pub same_initial_state : (c d first : MachineState) → (d.tree ≡ c.tree) × (d.limits ≡ c.limits) → HasInitialState c first → HasInitialState d first
same_initial_state c d first same h = ap (λ (t : Tree). initial_machine_state t d.limits) same.0 ∙ (ap (λ (l : Limits). initial_machine_state c.tree l) same.1 ∙ h)

-- what a machine was taken back to
pub one_initial_state : (c d first : MachineState) → initial_machine_state c.tree c.limits ≡ Some d → HasInitialState c first → d ≡ first
one_initial_state c d first opens h = same_Some d first (sym opens ∙ h)

pub initial_of_initial : (c first : MachineState) → HasInitialState c first → HasInitialState first first
initial_of_initial c first h = let of = opened_of c.tree c.limits first h in same_initial_state c first first of h

-- ---- a machine that was taken back to its initial state, or not

module _ (c d first : MachineState) (h : HasInitialState c first) where
  pub reopened_initial_state : (r : Result (Unit {0}) NoMemory) → OnOk r (initial_machine_state c.tree c.limits ≡ Some d) → OnErr r (d ≡ c) → HasInitialState d first
  reopened_initial_state (Ok x) opens refused = subst (λ (x : MachineState). HasInitialState x first) (sym (one_initial_state c d first opens h)) (initial_of_initial c first h)
  reopened_initial_state (Err x) opens refused = subst (λ (x : MachineState). HasInitialState x first) (sym refused) h

pub on_ok : {T E P Q : Type 0} (r : Result T E) → OnOk r P → (P → Q) → OnOk r Q
on_ok (Ok x) p f = f p
on_ok (Err e) p f = tt

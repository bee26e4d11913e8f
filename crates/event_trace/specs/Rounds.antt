-- One round of the search for deadlocked threads: who is not held up by the set is taken out of it.
use Rattle.std.specs.Prelude.{ℕ, ◌+◌, ◌&&◌, ◌||◌, not, Bool, false, List, [], ◌∷◌, slice_get, unwrap_or}
use Rattle.std.specs.Option.{option_map_or}
use Rattle.interleaving_core.specs.simulation.threads_monitors.Threads.{is_live_at}
use Rattle.interleaving_core.specs.simulation.MachineStates.{MachineState}
use Rattle.interleaving_core.specs.Waits.{wait_at}
use Rattle.interleaving_core.specs.declared.waits.Wait.{Wait}
use Rattle.interleaving_core.specs.declared.waits.Wait.TheVariants.{Monitor, Join}

-- whether a thread is in the set
abbrev pub is_in : List Bool → ℕ → Bool
is_in set t = unwrap_or (slice_get set t) false

-- whether a wait is for a thread of the set, or for a monitor of one that has ended
abbrev pub is_held_up : MachineState → List Bool → Wait → Bool
is_held_up c set (Monitor class owner) = is_in set owner || not (is_live_at c.threads owner)
is_held_up c set (Join thread) = is_in set thread

-- whether a thread waits, and is held up by the set
abbrev pub stays : MachineState → List Bool → ℕ → Bool
stays c set t = option_map_or (is_held_up c set) (wait_at c t) false

-- the truths of a list that pass, the first by this number
abbrev pub restrict : (ℕ → Bool) → ℕ → List Bool → List Bool
restrict test n [] = []
restrict test n (x ∷ xs) = (x && test n) ∷ restrict test (n + 1) xs

-- the set after a round
abbrev pub after_round : MachineState → List Bool → List Bool
after_round c set = restrict (stays c set) 0 set

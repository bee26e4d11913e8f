-- Who may enter and leave a monitor, and what it is then (I.12.6.5, this profile).
use Rattle.std.specs.Prelude.{ℕ, ◌+◌, ◌-◌, ◌==◌, nat_le, if◌then◌else◌, Option, Some, None, option_and_then}
use Rattle.std.specs.Option.{option_map_or}
use Rattle.cil_model.specs.declared.phases.Phase.{Phase}
use Rattle.object_memory.specs.declared.addresses.Addr.{Addr}
use Rattle.object_memory.specs.declared.monitors.Monitor.{Monitor}
use Rattle.object_memory.specs.declared.monitors.Monitor.TheVariants.{Free, Held}
use Rattle.object_memory.specs.Objects.{Objects, monitor_at}
use Rattle.barriers.specs.Barriers.{stored_monitor}
use Rattle.threads_monitors.specs.declared.effects.Effect.{Effect}
use Rattle.threads_monitors.specs.declared.effects.Effect.TheVariants.{Continues, Blocks, Raises}
use Rattle.threads_monitors.specs.declared.mutators.Mutator.{Mutator}
use Rattle.cil_model.specs.declared.reports.Fault.TheVariants.{ArgumentNull, SynchronizationLock}

-- how often it was entered
abbrev pub entries : Monitor → ℕ
entries Free = 0
entries (Held owner count) = count

-- the monitor once the thread has entered it once more; none where another holds it
abbrev pub enter_monitor : ℕ → Monitor → Option Monitor
enter_monitor thread Free = Some (Held thread 1)
enter_monitor thread (Held owner count) = if owner == thread then Some (Held thread (count + 1)) else None

-- the monitor once its owner has left it once; none where the thread is not its owner
abbrev pub leave_monitor : ℕ → Monitor → Option Monitor
leave_monitor thread Free = None
leave_monitor thread (Held owner count) = if owner == thread then Some (if nat_le count 1 then Free else Held thread (count - 1)) else None

-- the objects with the monitor at an address as it is now; as they were where there is none, with an effect of its own
abbrev pub with_monitor_or : Phase → Objects → Addr → Effect → Option Monitor → Objects × Effect
with_monitor_or phase o a otherwise m = option_map_or (λ m'. (stored_monitor phase o a m', Continues)) m (o, otherwise)

-- the objects after an entry, which another's monitor blocks
abbrev pub with_entry : Mutator → Objects → Addr → Objects × Effect
with_entry mutator o a =
    if a.number == 0 then (o, Raises ArgumentNull)
    else with_monitor_or mutator.phase o a Blocks (option_and_then (enter_monitor mutator.number) (monitor_at o a))

-- the objects after an exit, which is its owner's alone
abbrev pub with_exit : Mutator → Objects → Addr → Objects × Effect
with_exit mutator o a =
    if a.number == 0 then (o, Raises ArgumentNull)
    else with_monitor_or mutator.phase o a (Raises SynchronizationLock) (option_and_then (leave_monitor mutator.number) (monitor_at o a))

-- What the built-in members that need no other thread do (Partition IV). A rule has no result where an operand is missing or of another
-- kind, or where there is no such object or literal: no verified program comes there.
use Rattle.std.specs.Prelude.{ℕ, ◌-◌, ◌^◌, ◌==◌, Bool, false, ◌&&◌, ◌||◌, if◌then◌else◌, nat_lt, is_some, List, [], ◌∷◌, ◌++◌, Option, Some, None, option_map, slice_get}
use Rattle.std.specs.Fmt.{signed_decimal}
use Rattle.std.specs.Option.{option_map_or}
use Rattle.object_memory.specs.declared.addresses.Addr.{Addr}
use Rattle.object_memory.specs.declared.monitors.Monitor.{Monitor}
use Rattle.object_memory.specs.declared.values.Value.{Value}
use Rattle.object_memory.specs.declared.values.Value.TheVariants.{Int32, Int64, Native, Ref}
use Rattle.object_memory.specs.Cells.{literal_number}
use Rattle.object_memory.specs.Objects.{Objects, monitor_at}
use Rattle.threads_monitors.specs.Frames.{Frames, with_stack}
use Rattle.threads_monitors.specs.Monitors.{entries, with_entry, with_exit}
use Rattle.threads_monitors.specs.declared.effects.Effect.{Effect}
use Rattle.threads_monitors.specs.declared.effects.Effect.TheVariants.{Continues}
use Rattle.threads_monitors.specs.declared.mutators.Mutator.{Mutator}
use Rattle.barriers.specs.Barriers.{is_monitor_storable}
use Rattle.instructions.specs.Frames.{when_some, with_top, onward}
use Rattle.instructions.specs.ObjectTransitions.{ObjectTransition, with_objects}

-- ---- monitors

-- takes the topmost reference; what is done about it may still leave it there
abbrev pub reference_from : List Value → Frames → (Addr → Frames → ObjectTransition) → ObjectTransition
reference_from (Ref a ∷ rest) m go = go a (with_stack m rest)
reference_from _ m go = None

-- where the effect lets the thread continue, the operand is gone; otherwise the frames stay
abbrev pub pop_if_continues : Frames → Frames → Objects × Effect → ObjectTransition
pop_if_continues m popped (o, Continues) = with_objects o (onward popped)
pop_if_continues m popped (o, e) = Some (m, o, e)

-- a monitor that can be entered once more and counted
abbrev pub is_countable : Option Monitor → Bool
is_countable None = false
is_countable (Some monitor) = nat_lt (entries monitor) (2 ^ 32 - 1)

-- Monitor.Enter (I.12.6.5)
abbrev pub enter_transition : Mutator → Frames → Objects → ObjectTransition
enter_transition mutator m o = reference_from m.running.stack m (λ a n.
    if (a.number == 0) || (is_countable (monitor_at o a) && is_monitor_storable mutator.phase o a) then pop_if_continues m n (with_entry mutator o a) else None)

-- Monitor.Exit (I.12.6.5)
abbrev pub exit_transition : Mutator → Frames → Objects → ObjectTransition
exit_transition mutator m o = reference_from m.running.stack m (λ a n.
    if (a.number == 0) || (is_some (monitor_at o a) && is_monitor_storable mutator.phase o a) then pop_if_continues m n (with_exit mutator o a) else None)

-- ---- printing

-- a literal's characters, or nothing for null
abbrev pub text_at : List (List ℕ) → Addr → Option (List ℕ)
text_at literals a = if a.number == 0 then Some [] else option_map_or (slice_get literals) (literal_number a) None

-- decimal text, or a literal's characters, or nothing for null; then a line end
abbrev pub line_of : List (List ℕ) → Value → Option (List ℕ)
line_of literals (Int32 z) = Some (signed_decimal z ++ 10 ∷ [])
line_of literals (Int64 z) = Some (signed_decimal z ++ 10 ∷ [])
line_of literals (Ref a) = option_map (λ text. text ++ 10 ∷ []) (text_at literals a)
line_of literals (Native z) = None

-- prints a line and advances
abbrev pub print_bytes : List ℕ → List ℕ → Frames → Option (Frames × List ℕ × Effect)
print_bytes line console m = option_map (λ (t : Frames × Effect). (t.0, console ++ line, t.1)) (onward m)

-- Console.WriteLine: the frames and the printed bytes after it
abbrev pub write_transition : List (List ℕ) → List ℕ → Frames → Option (Frames × List ℕ × Effect)
write_transition literals console m = with_top m (λ v n. when_some (line_of literals v) (λ line. print_bytes line console n))

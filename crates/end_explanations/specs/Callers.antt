-- The calls of threads that have not returned (this profile).
use Rattle.std.specs.Prelude.{◌-◌, ◌++◌, ◌∷◌, [], ℕ, List, Option, Some, None, if◌then◌else◌, nat_lt, slice_get, slice_set, take, unwrap_or}
use Rattle.cil_model.specs.declared.events.Event.{Event}
use Rattle.cil_model.specs.declared.events.Event.TheVariants.{Step, Ack, Gc}
use Rattle.event_trace.specs.interleaving_core.declared.positions.Position.{Position}

-- A step that adds a frame calls: where the thread was before it is a caller, the innermost, which is the last. Otherwise one caller is left for
-- each frame below the running one.
abbrev pub callers_after : List Position → Position → Position → List Position
callers_after callers before after = if nat_lt before.frames after.frames then callers ++ before ∷ [] else take (after.frames - 1) callers

-- the callers of a thread, of those of all threads
abbrev pub callers_of : List (List Position) → ℕ → List Position
callers_of all t = unwrap_or (slice_get all t) []

-- those of all threads after a step of one from a position to another
abbrev pub follow_calls : List (List Position) → ℕ → Option Position → Option Position → List (List Position)
follow_calls all t None after = all
follow_calls all t (Some before) None = all
follow_calls all t (Some before) (Some after) = slice_set all t (callers_after (callers_of all t) before after)

-- those after an event, whose thread was at a position and is at another; only a step changes them
abbrev pub callers_with : List (List Position) → Event → Option Position → Option Position → List (List Position)
callers_with all (Step t) before after = follow_calls all t before after
callers_with all (Ack t) before after = all
callers_with all Gc before after = all

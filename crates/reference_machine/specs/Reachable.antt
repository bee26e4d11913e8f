-- The objects that a program can still reach (this profile).
use Rattle.cil_model.specs.Fields.{FieldKey}
use Rattle.std.specs.Prelude.{List, [], ◌∷◌, ◌++◌, map, flat_map, filter, Option, Some, None, Contains}
use Rattle.reference_machine.specs.Values.{ObjectName, Value, Reference}
use Rattle.reference_machine.specs.States.{Contents, Instance, Array, HeapObject, Frame, Thread, State, object_at, is_live_thread}

-- the object that newobj has still to push
abbrev pub constructed_value : Option ObjectName → List Value
constructed_value None = []
constructed_value (Some n) = Reference n ∷ []

-- what a frame holds
abbrev pub values_of_frame : Frame → List Value
values_of_frame f = f.arguments ++ f.locals ++ f.stack ++ constructed_value f.constructed

-- what the frames of live threads and the statics hold
abbrev pub roots : State → List Value
roots s = flat_map (λ (t : Thread). flat_map values_of_frame t.frames) (filter is_live_thread s.threads) ++ map (λ (e : FieldKey × Value). e.1) s.statics

-- what an object holds
abbrev pub values_of_contents : Contents → List Value
values_of_contents (Instance c fields) = map (λ (e : FieldKey × Value). e.1) fields
values_of_contents (Array t elements) = elements

-- what an object that is there holds
abbrev pub members_of : Option HeapObject → List Value
members_of None = []
members_of (Some o) = values_of_contents o.contents

-- a path of members leads from a root to the object
pub data IsReachable (s : State) : ObjectName → Type 0 where
  from_root : (n : ObjectName) → Contains (roots s) (Reference n) → IsReachable s n
  from_member : (m n : ObjectName) → IsReachable s m → Contains (members_of (object_at s m)) (Reference n) → IsReachable s n

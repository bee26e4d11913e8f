-- A heap that is made by hand, for a test of the barriers as they run: what it holds, and what it holds after each call of the test.
use Rattle.std.specs.Prelude.{◌≡◌, ℕ, ◌+◌, Bool, true, false, List, [], ◌∷◌, length, replicate, Option, Some, None, IsSome, IfSome}
use Rattle.cil_model.specs.declared.limits.TheConstants.{MOST_WORDS}
use Rattle.cil_model.specs.declared.phases.Phase.{Phase}
use Rattle.object_memory.specs.declared.addresses.Addr.{Addr}
use Rattle.object_memory.specs.declared.kinds.Kind.TheVariants.{Instance}
use Rattle.object_memory.specs.declared.monitors.Monitor.TheVariants.{Free, Held}
use Rattle.object_memory.specs.declared.values.Value.{Value}
use Rattle.object_memory.specs.declared.values.Value.TheVariants.{Ref}
use Rattle.object_memory.specs.Cells.{Cell, literal, null}
use Rattle.object_memory.specs.Objects.{Objects, monitor_at, object_cell, object_slots}
use Rattle.barriers.specs.Barriers.{are_comparable, is_other_in_heap, object_born, stored_int, stored_monitor, stored_ref, stored_static, stored_value}

-- ---- the heap

abbrev pub address_of : ℕ → Addr
address_of n = record { number = n }

-- the copies of an object with six slots, and those of one with one slot
abbrev pub host : Addr
host = address_of 8

abbrev pub host_copied : Addr
host_copied = address_of (1 + MOST_WORDS)

abbrev pub guest : Addr
guest = address_of 17

abbrev pub guest_copied : Addr
guest_copied = address_of (10 + MOST_WORDS)

-- two objects of one copy that aren't marked
abbrev pub white : Addr
white = address_of 1

abbrev pub other_white : Addr
other_white = address_of 5

abbrev cell : (slots : ℕ) → Bool → Option Addr → Cell
cell slots marked other = record { kind = Instance 5; slots = replicate slots 0; marked = marked; other = other; monitor = Free }

-- A cycle is open, and there is a literal.
abbrev pub test_objects : Objects
test_objects = record {
  spaces = record {
    old = record { start = 1; cells = cell 1 false None ∷ cell 0 false None ∷ cell 6 true (Some host_copied) ∷ cell 1 true (Some guest_copied) ∷ []; words = 64 };
    new = record { start = 1 + MOST_WORDS; cells = cell 6 true (Some host) ∷ cell 1 true (Some guest) ∷ []; words = 64 };
    grey = [];
    has_marked = false;
    is_open = true;
  };
  literals = Free ∷ [];
}

-- ---- after each call

abbrev pub after_ref : Phase → Objects
after_ref f = stored_ref f test_objects host 0 guest

abbrev pub after_refs : Phase → Objects
after_refs f = stored_ref f (after_ref f) host_copied 1 guest

abbrev pub after_value : Phase → Objects
after_value f = stored_value f (after_refs f) host 2 (Ref white)

abbrev pub after_values : Phase → Objects
after_values f = stored_value f (after_value f) host_copied 3 (Ref (literal 0))

abbrev pub after_int : Phase → Objects
after_int f = stored_int f (after_values f) host 4 9

abbrev pub after_ints : Phase → Objects
after_ints f = stored_int f (after_int f) host_copied 5 8

abbrev pub after_host : Phase → Objects
after_host f = stored_monitor f (after_ints f) host (Held 3 1)

abbrev pub after_guest : Phase → Objects
after_guest f = stored_monitor f (after_host f) guest_copied (Held 4 2)

abbrev pub after_monitors : Phase → Objects
after_monitors f = stored_monitor f (after_guest f) (literal 0) (Held 5 3)

abbrev pub fields : List Value
fields = Ref (record { number = 0 }) ∷ Ref (record { number = 0 }) ∷ []

abbrev pub after_static : Phase → Objects × List Value
after_static f = stored_static f (after_monitors f) fields 0 (Ref other_white)

abbrev pub after_statics : Phase → Objects × List Value
after_statics f = stored_static f ((after_static f).0) ((after_static f).1) 1 (Ref guest)

-- what is born, too
abbrev pub after_birth : Phase → Objects × Option Addr
after_birth f = object_born f ((after_statics f).0) (Instance 5) 2

-- ---- what can be read

-- the copies with their slots, the objects of one copy, the literal, and what is born
pub record IsSeen (f : Phase) (o : Objects) (r : Option Addr) : Type 0 where
  pub old_slots : length (object_slots o host) ≡ 6
  pub new_slots : length (object_slots o host_copied) ≡ 6
  pub white_there : IsSome (object_cell o white)
  pub other_white_there : IsSome (object_cell o other_white)
  pub host_monitor : IsSome (monitor_at o host)
  pub host_copied_monitor : IsSome (monitor_at o host_copied)
  pub guest_monitor : IsSome (monitor_at o guest)
  pub guest_copied_monitor : IsSome (monitor_at o guest_copied)
  pub text_monitor : IsSome (monitor_at o (literal 0))
  pub twins : are_comparable f o host host_copied ≡ true
  pub others : are_comparable f o host guest ≡ true
  pub nulls : are_comparable f o null null ≡ true
  pub born : IfSome r (λ a. IsSome (object_cell o a))
  pub copy : IfSome r (λ a. is_other_in_heap o a ≡ true)

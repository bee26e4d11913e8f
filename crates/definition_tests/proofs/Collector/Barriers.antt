-- What the barriers do in each phase, on a heap that is written out: one object in the old block, which refers to another, and the copies of
-- both in the new one.
use Rattle.std.proofs.Common.{◌≡◌, ◌+◌, ℕ, Bool, true, false, List, [], ◌∷◌, length, Option, Some, None, option_map, refl, codes}
use Rattle.cil_model.specs.declared.limits.TheConstants.{MOST_WORDS}
use Rattle.cil_model.specs.declared.phases.Phase.{Phase}
use Rattle.cil_model.specs.declared.phases.Phase.TheVariants.{Idle, Mark, Allocate, Copy, PreFlip, HeapFlip, ThreadFlip, Reclaim}
use Rattle.object_memory.specs.declared.addresses.Addr.{Addr}
use Rattle.object_memory.specs.declared.kinds.Kind.TheVariants.{Instance}
use Rattle.object_memory.specs.declared.monitors.Monitor.{Monitor}
use Rattle.object_memory.specs.declared.monitors.Monitor.TheVariants.{Free, Held}
use Rattle.object_memory.specs.declared.values.Value.{Value}
use Rattle.object_memory.specs.declared.values.Value.TheVariants.{Ref}
use Rattle.object_memory.specs.Cells.{Cell, literal}
use Rattle.object_memory.specs.Objects.{Objects, monitor_at, object_slots}
use Rattle.barriers.specs.Barriers.{are_same, is_storable, object_born, stored_int, stored_monitor, stored_static, stored_value}
use Rattle.definition_tests.proofs.Samples.Tables.{Answers}

-- ---- a heap

-- the first object and the second, and the copies of both
abbrev one : Addr
one = record { number = 1 }

abbrev two : Addr
two = record { number = 6 }

abbrev one_copied : Addr
one_copied = record { number = 1 + MOST_WORDS }

abbrev two_copied : Addr
two_copied = record { number = 6 + MOST_WORDS }

abbrev cell : List ℕ → Bool → Option Addr → Cell
cell slots marked other = record { kind = Instance 5; slots = slots; marked = marked; other = other; monitor = Free }

-- between cycles
abbrev before : Objects
before = record {
  spaces = record {
    old = record { start = 1; cells = cell (0 ∷ 7 ∷ []) false None ∷ cell (3 ∷ []) false None ∷ []; words = 64 };
    new = record { start = 1 + MOST_WORDS; cells = []; words = 0 };
    grey = [];
    has_marked = false;
    is_open = false;
  };
  literals = Free ∷ [];
}

-- a cycle is open, and nothing is marked
abbrev marking : Objects
marking = record before { spaces = record { old = before.spaces.old; new = record { start = 1 + MOST_WORDS; cells = []; words = 64 }; grey = []; has_marked = false; is_open = true } }

-- both objects have their copies
abbrev copied : Objects
copied = record before {
  spaces = record {
    old = record { start = 1; cells = cell (0 ∷ 7 ∷ []) true (Some one_copied) ∷ cell (3 ∷ []) true (Some two_copied) ∷ []; words = 64 };
    new = record { start = 1 + MOST_WORDS; cells = cell (0 ∷ 7 ∷ []) true (Some one) ∷ cell (3 ∷ []) true (Some two) ∷ []; words = 64 };
    grey = [];
    has_marked = false;
    is_open = true;
  };
}

-- ---- a reference to the second object is stored to the first slot of the first

-- the slots of both copies of the first object, and the grey list
abbrev shown : Objects → List ℕ × List ℕ × List Addr
shown o = (object_slots o one, object_slots o one_copied, o.spaces.grey)

abbrev plain : List ℕ × List ℕ × List Addr
plain = (6 ∷ 7 ∷ [], [], [])

stores_of_references : Answers shown (
    (codes "reference while idle", stored_value Idle before one 0 (Ref two), plain) ∷
    (codes "reference while marking", stored_value Mark marking one 0 (Ref two), (6 ∷ 7 ∷ [], [], two ∷ [])) ∷
    (codes "reference while allocating", stored_value Allocate marking one 0 (Ref two), plain) ∷
    (codes "reference while copying", stored_value Copy copied one 0 (Ref two), (6 ∷ 7 ∷ [], (6 + MOST_WORDS) ∷ 7 ∷ [], [])) ∷
    (codes "reference before the flips", stored_value PreFlip copied one 0 (Ref two), (6 ∷ 7 ∷ [], (6 + MOST_WORDS) ∷ 7 ∷ [], [])) ∷
    (codes "reference at the heap flip", stored_value HeapFlip copied one_copied 0 (Ref two), (6 ∷ 7 ∷ [], (6 + MOST_WORDS) ∷ 7 ∷ [], [])) ∷
    (codes "reference at the thread flip", stored_value ThreadFlip copied one_copied 0 (Ref two_copied), ((6 + MOST_WORDS) ∷ 7 ∷ [], (6 + MOST_WORDS) ∷ 7 ∷ [], [])) ∷
    (codes "reference while reclaiming", stored_value Reclaim copied one_copied 0 (Ref two_copied), (0 ∷ 7 ∷ [], (6 + MOST_WORDS) ∷ 7 ∷ [], [])) ∷
    [])
stores_of_references = refl

-- a mark takes an open cycle, and an object of this heap
no_mark_between_cycles : is_storable Mark before one 0 (Ref two) ≡ false
no_mark_between_cycles = refl

no_mark_of_a_stray_address : is_storable Mark marking one 0 (Ref (record { number = 2 })) ≡ false
no_mark_of_a_stray_address = refl

-- ---- an integer is stored to the second slot

stores_of_integers : Answers shown (
    (codes "integer while idle", stored_int Idle before one 1 9, (0 ∷ 9 ∷ [], [], [])) ∷
    (codes "integer while marking", stored_int Mark marking one 1 9, (0 ∷ 9 ∷ [], [], [])) ∷
    (codes "integer while allocating", stored_int Allocate marking one 1 9, (0 ∷ 9 ∷ [], [], [])) ∷
    (codes "integer while copying", stored_int Copy copied one 1 9, (0 ∷ 9 ∷ [], 0 ∷ 9 ∷ [], [])) ∷
    (codes "integer before the flips", stored_int PreFlip copied one_copied 1 9, (0 ∷ 9 ∷ [], 0 ∷ 9 ∷ [], [])) ∷
    (codes "integer at the heap flip", stored_int HeapFlip copied one 1 9, (0 ∷ 9 ∷ [], 0 ∷ 9 ∷ [], [])) ∷
    (codes "integer at the thread flip", stored_int ThreadFlip copied one_copied 1 9, (0 ∷ 9 ∷ [], 0 ∷ 9 ∷ [], [])) ∷
    (codes "integer while reclaiming", stored_int Reclaim copied one_copied 1 9, (0 ∷ 7 ∷ [], 0 ∷ 9 ∷ [], [])) ∷
    [])
stores_of_integers = refl

-- ---- a thread enters the monitor of the first object

abbrev monitors : Objects → Option Monitor × Option Monitor
monitors o = (monitor_at o one, monitor_at o one_copied)

stores_of_monitors : Answers monitors (
    (codes "monitor while idle", stored_monitor Idle before one (Held 3 1), (Some (Held 3 1), None)) ∷
    (codes "monitor while marking", stored_monitor Mark marking one (Held 3 1), (Some (Held 3 1), None)) ∷
    (codes "monitor while allocating", stored_monitor Allocate marking one (Held 3 1), (Some (Held 3 1), None)) ∷
    (codes "monitor while copying", stored_monitor Copy copied one (Held 3 1), (Some (Held 3 1), Some (Held 3 1))) ∷
    (codes "monitor before the flips", stored_monitor PreFlip copied one_copied (Held 3 1), (Some (Held 3 1), Some (Held 3 1))) ∷
    (codes "monitor at the heap flip", stored_monitor HeapFlip copied one (Held 3 1), (Some (Held 3 1), Some (Held 3 1))) ∷
    (codes "monitor at the thread flip", stored_monitor ThreadFlip copied one_copied (Held 3 1), (Some (Held 3 1), Some (Held 3 1))) ∷
    (codes "monitor while reclaiming", stored_monitor Reclaim copied one_copied (Held 3 1), (Some Free, Some (Held 3 1))) ∷
    [])
stores_of_monitors = refl

-- a literal has one monitor in every phase
monitor_of_a_literal : monitor_at (stored_monitor Copy copied (literal 0) (Held 3 1)) (literal 0) ≡ Some (Held 3 1)
monitor_of_a_literal = refl

-- ---- a reference to the second object is stored to a static field

-- the static fields, and the grey list
abbrev statics : Objects × List Value → List Value × List Addr
statics x = (x.1, x.0.spaces.grey)

abbrev fields : List Value
fields = Ref (record { number = 0 }) ∷ []

stores_to_static_fields : Answers statics (
    (codes "static while idle", stored_static Idle before fields 0 (Ref two), (Ref two ∷ [], [])) ∷
    (codes "static while marking", stored_static Mark marking fields 0 (Ref two), (Ref two ∷ [], two ∷ [])) ∷
    (codes "static while allocating", stored_static Allocate marking fields 0 (Ref two), (Ref two ∷ [], [])) ∷
    (codes "static while copying", stored_static Copy copied fields 0 (Ref two), (Ref two ∷ [], [])) ∷
    (codes "static before the flips", stored_static PreFlip copied fields 0 (Ref two), (Ref two_copied ∷ [], [])) ∷
    (codes "static at the heap flip", stored_static HeapFlip copied fields 0 (Ref two), (Ref two_copied ∷ [], [])) ∷
    (codes "static at the thread flip", stored_static ThreadFlip copied fields 0 (Ref two_copied), (Ref two_copied ∷ [], [])) ∷
    (codes "static while reclaiming", stored_static Reclaim copied fields 0 (Ref two_copied), (Ref two_copied ∷ [], [])) ∷
    [])
stores_to_static_fields = refl

-- ---- an object of two fields is born

-- its address, how many objects both blocks have then, and the grey list
abbrev born : Objects × Option Addr → Option ℕ × ℕ × ℕ × List Addr
born x = (option_map (λ (a : Addr). a.number) x.1, length x.0.spaces.old.cells, length x.0.spaces.new.cells, x.0.spaces.grey)

births : Answers born (
    (codes "birth while idle", object_born Idle before (Instance 5) 2, (Some 10, 3, 0, [])) ∷
    (codes "birth while marking", object_born Mark marking (Instance 5) 2, (Some 10, 3, 0, record { number = 10 } ∷ [])) ∷
    (codes "birth while allocating", object_born Allocate marking (Instance 5) 2, (Some 10, 3, 1, [])) ∷
    (codes "birth while copying", object_born Copy copied (Instance 5) 2, (Some 10, 3, 3, [])) ∷
    (codes "birth before the flips", object_born PreFlip copied (Instance 5) 2, (Some 10, 3, 3, [])) ∷
    (codes "birth at the heap flip", object_born HeapFlip copied (Instance 5) 2, (Some 10, 3, 3, [])) ∷
    (codes "birth at the thread flip", object_born ThreadFlip copied (Instance 5) 2, (Some (10 + MOST_WORDS), 2, 3, [])) ∷
    (codes "birth while reclaiming", object_born Reclaim copied (Instance 5) 2, (Some (10 + MOST_WORDS), 2, 3, [])) ∷
    [])
births = refl

-- one that exceeds the room changes nothing
birth_beyond_the_room : object_born Copy copied (Instance 5) 53 ≡ (copied, None)
birth_beyond_the_room = refl

-- ---- the two addresses of an object are compared, and those of two objects

abbrev compared : Phase → Bool × Bool
compared phase = (are_same phase copied one one_copied, are_same phase copied one two)

comparisons_of_addresses : Answers compared (
    (codes "compared while idle", Idle, (false, false)) ∷
    (codes "compared while marking", Mark, (false, false)) ∷
    (codes "compared while allocating", Allocate, (false, false)) ∷
    (codes "compared while copying", Copy, (true, false)) ∷
    (codes "compared before the flips", PreFlip, (true, false)) ∷
    (codes "compared at the heap flip", HeapFlip, (true, false)) ∷
    (codes "compared at the thread flip", ThreadFlip, (false, false)) ∷
    (codes "compared while reclaiming", Reclaim, (false, false)) ∷
    [])
comparisons_of_addresses = refl

-- The references that the frames of a thread hold, and what they are once each of them is replaced (this profile).
use Rattle.std.specs.Prelude.{◌≡◌, List, ◌∷◌, ◌++◌, map, reverse, Option, Some, None, option_map, option_to_list, filter_map, flat_map, All}
use Rattle.object_memory.specs.declared.addresses.Addr.{Addr}
use Rattle.object_memory.specs.declared.values.Value.{Value}
use Rattle.object_memory.specs.declared.values.Value.TheVariants.{Int32, Int64, Native, Ref}
use Rattle.threads_monitors.specs.Frames.{Frame, Frames}

-- ---- what a thread holds

-- the frames from the thread's first one on, the running one last
abbrev pub frames_upward : Frames → List Frame
frames_upward m = reverse (m.running ∷ m.below)

-- what a frame holds: its arguments, its locals, and its stack upward
abbrev pub values_of : Frame → List Value
values_of f = f.arguments ++ (f.locals ++ reverse f.stack)

abbrev pub reference_in : Value → Option Addr
reference_in (Int32 n) = None
reference_in (Int64 n) = None
reference_in (Native n) = None
reference_in (Ref a) = Some a

-- the references of a frame: those among its values, then the object to push at the end of a constructor
abbrev pub frame_roots : Frame → List Addr
frame_roots f = filter_map reference_in (values_of f) ++ option_to_list f.constructed

-- all that a thread holds, null among them
abbrev pub roots : Frames → List Addr
roots m = flat_map frame_roots (frames_upward m)

-- ---- replacing them

-- another address in place of a reference; an integer stays
abbrev pub with_reference : (Addr → Addr) → Value → Value
with_reference g (Int32 n) = Int32 n
with_reference g (Int64 n) = Int64 n
with_reference g (Native n) = Native n
with_reference g (Ref a) = Ref (g a)

abbrev pub frame_with_references : (Addr → Addr) → Frame → Frame
frame_with_references g f =
    record f {
      arguments = map (with_reference g) f.arguments;
      locals = map (with_reference g) f.locals;
      stack = map (with_reference g) f.stack;
      constructed = option_map g f.constructed;
    }

abbrev pub with_references : (Addr → Addr) → Frames → Frames
with_references g m = record m { running = frame_with_references g m.running; below = map (frame_with_references g) m.below }

-- a closure, by what it requires and what it may return, may be called at an address, and returns there what g does
abbrev pub IsAnswer : (Addr → Type 0) → (Addr → Addr → Type 0) → (Addr → Addr) → Addr → Type 0
IsAnswer pre post g a = pre a × ((answer : Addr) → post a answer → answer ≡ g a)

-- at each of these addresses
abbrev pub AnswersAt : (Addr → Type 0) → (Addr → Addr → Type 0) → (Addr → Addr) → List Addr → Type 0
AnswersAt pre post g references = All (IsAnswer pre post g) references

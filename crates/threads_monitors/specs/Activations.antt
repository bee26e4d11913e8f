-- How the frames of a thread lie in its memory: all their values in one stack, the lowest frame's first. No caller reads this.
use Rattle.std.specs.Prelude.{◌≡◌, ◌≤◌, ℕ, ◌+◌, ◌-◌, ◌*◌, List, [], ◌∷◌, ◌++◌, length, reverse, take, drop, option_map}
use Rattle.object_memory.specs.declared.addresses.Addr.{Addr}
use Rattle.object_memory.specs.declared.values.Value.{Value}
use Rattle.threads_monitors.specs.declared.frames.Activation.{Activation}
use Rattle.threads_monitors.specs.Frames.{Frame, Frames, size}
use Rattle.threads_monitors.specs.Roots.{values_of}

-- the values of all frames, the running one's last
abbrev pub value_stack : List Frame → List Value
value_stack [] = []
value_stack (f ∷ fs) = value_stack fs ++ values_of f

-- where a frame's values lie, above those of the frames below it
abbrev pub activation : List Frame → Frame → Activation
activation fs f = record {
  method = f.method;
  pc = f.pc;
  constructed = f.constructed;
  arguments = length (value_stack fs);
  locals = length (value_stack fs) + length f.arguments;
  stack = length (value_stack fs) + (length f.arguments + length f.locals);
}

abbrev pub activations : List Frame → List Activation
activations [] = []
activations (f ∷ fs) = activation fs f ∷ activations fs

-- the frame that lies there, with nothing above it
abbrev pub frame_of : List Value → Activation → Frame
frame_of values a = record {
  method = a.method;
  pc = a.pc;
  arguments = take (a.locals - a.arguments) (drop a.arguments values);
  locals = take (a.stack - a.locals) (drop a.locals values);
  stack = reverse (drop a.stack values);
  constructed = a.constructed;
}

-- the frames whose values are in the value stack, the uppermost first
abbrev pub frames_of : List Value → List Activation → List Frame
frames_of values [] = []
frames_of values (a ∷ rest) = frame_of values a ∷ frames_of (take a.arguments values) rest

-- the value stack and the activations are those of these frames
pub record Lays (values : List Value) (running : Activation) (below : List Activation) (f : Frame) (fs : List Frame) : Type 0 where
  pub values_are : values ≡ value_stack (f ∷ fs)
  pub running_is : running ≡ activation fs f
  pub below_are : below ≡ activations fs

-- the n lowest frames
abbrev pub lowest : ℕ → List Frame → List Frame
lowest n fs = drop (length fs - n) fs

-- another address in place of the object that a constructor makes
abbrev pub with_constructed : (Addr → Addr) → Activation → Activation
with_constructed g a = record a { constructed = option_map g a.constructed }

-- the same frame, whose values begin at another index
abbrev pub moved_to : ℕ → Activation → Activation
moved_to start a = record a { arguments = start; locals = start + (a.locals - a.arguments); stack = start + (a.stack - a.arguments) }

-- no frame has more values than the room for one
abbrev pub Fit : ℕ → List Frame → Type 0
Fit room [] = Unit {0}
Fit room (f ∷ fs) = (size f ≤ room) × Fit room fs

-- what callers see of a value stack with its activations, the running one beside those below it
abbrev pub visible_frames : List Value → Activation → List Activation → (depth room : ℕ) → Frames
visible_frames values running below depth room = record {
  running = frame_of values running;
  below = frames_of (take running.arguments values) (reverse below);
  depth = depth;
  room = room;
}

-- the value stack and the activations are those of the frames, which fit into the memory that was taken
pub record IsSoundStack (values : List Value) (running : Activation) (below : List Activation) (depth room capacity most_below : ℕ) : Type 0 where
  pub lays : Lays values running (reverse below) (visible_frames values running below depth room).running (visible_frames values running below depth room).below
  pub fit : Fit room ((visible_frames values running below depth room).running ∷ (visible_frames values running below depth room).below)
  pub few : length below + 1 ≤ depth
  pub large : depth * room ≤ capacity
  pub deep : depth ≤ most_below + 1

-- The frames of a thread as callers see them, without indices into the value stack (I.12.3.2, this profile).
use Rattle.std.specs.Prelude.{ℕ, ◌+◌, pos, List, [], ◌∷◌, ◌++◌, map, length, reverse, take, drop, Option, slice_set}
use Rattle.object_memory.specs.declared.addresses.Addr.{Addr}
use Rattle.object_memory.specs.declared.values.Value.{Value}
use Rattle.object_memory.specs.declared.values.Value.TheVariants.{Int32, Int64, Native, Ref}
use Rattle.cil_model.specs.declared.values.ValueKind.{ValueKind}
use Rattle.cil_model.specs.declared.values.ValueKind.TheVariants.{Int32 as Int32Kind, Int64 as Int64Kind, Native as NativeKind, Ref as RefKind}
use Rattle.object_memory.specs.Cells.{null}

-- A method state: the number of the method, the pc of the next instruction, and the values; the stack's topmost comes
-- first. Of a constructor that newobj runs, the object to push at its end.
pub record Frame : Type 0 where
  pub method : ℕ
  pub pc : ℕ
  pub arguments : List Value
  pub locals : List Value
  pub stack : List Value
  pub constructed : Option Addr

-- the frame that runs, those below it, the nearest first, how many frames there may be, and how many values each may hold
pub record Frames : Type 0 where
  pub running : Frame
  pub below : List Frame
  pub depth : ℕ
  pub room : ℕ

-- the values of a frame
abbrev pub size : Frame → ℕ
size f = length f.arguments + (length f.locals + length f.stack)

-- 0, or null (I.12.3.2.2)
abbrev pub zero_value : ValueKind → Value
zero_value Int32Kind = Int32 (pos 0)
zero_value Int64Kind = Int64 (pos 0)
zero_value NativeKind = Native (pos 0)
zero_value RefKind = Ref null

-- a frame at the beginning of a method, with zeros in its locals
abbrev pub new_frame : ℕ → List Value → List ValueKind → Option Addr → Frame
new_frame method arguments locals constructed =
    record { method = method; pc = 0; arguments = arguments; locals = map zero_value locals; stack = []; constructed = constructed }

-- ---- the running frame

abbrev pub with_running : Frames → Frame → Frames
with_running m f = record m { running = f }

abbrev pub with_pc : Frames → ℕ → Frames
with_pc m pc = with_running m (record m.running { pc = pc })

abbrev pub with_stack : Frames → List Value → Frames
with_stack m stack = with_running m (record m.running { stack = stack })

-- with a value beneath the topmost ones
abbrev pub with_inserted : Frames → ℕ → Value → Frames
with_inserted m n v = with_stack m (take n m.running.stack ++ v ∷ drop n m.running.stack)

abbrev pub with_argument : Frames → ℕ → Value → Frames
with_argument m i v = with_running m (record m.running { arguments = slice_set m.running.arguments i v })

abbrev pub with_local : Frames → ℕ → Value → Frames
with_local m i v = with_running m (record m.running { locals = slice_set m.running.locals i v })

-- ---- calls

-- the uppermost values of the stack are the arguments of the new frame, in the order in which they were pushed (III.3.19)
abbrev pub with_call : Frames → ℕ → ℕ → List ValueKind → Option Addr → Frames
with_call m method arguments locals constructed =
    record m {
      running = new_frame method (reverse (take arguments m.running.stack)) locals constructed;
      below = record m.running { stack = drop arguments m.running.stack } ∷ m.below;
    }

-- with no frame below nothing changes
abbrev pub returned_to : Frames → List Frame → Frames
returned_to m [] = m
returned_to m (f ∷ fs) = record m { running = f; below = fs }

-- the nearest frame below runs again (III.3.57)
abbrev pub return_frames : Frames → Frames
return_frames m = returned_to m m.below

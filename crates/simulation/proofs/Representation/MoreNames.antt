-- What is represented under some names is represented under more of them.
-- A thread at the beginning of a method represents one of the reference machine.
use Rattle.std.proofs.Common.{ℕ, List, ◌∷◌, Option, Some, None, ◌≡◌, ◌≤◌, [], slice_get, refl}
use Rattle.interpreter.specs.cil_model.declared.limits.Limits.{Limits}
use Rattle.interpreter.specs.cil_model.declared.trees.Tree.{Tree}
use Rattle.interpreter.specs.cil_model.declared.reports.End.{End}
use Rattle.interpreter.specs.cil_model.Fields.{FieldKey}
use Rattle.interpreter.specs.reference_machine.Values.{ObjectName, Value as StateValue, Reference}
use Rattle.interpreter.specs.reference_machine.States.{Contents, Instance as IsInstance, Array as IsArray, HeapObject, Frame as StateFrame, Thread as StateThread}
use Rattle.interpreter.specs.object_memory.declared.addresses.Addr.{Addr}
use Rattle.interpreter.specs.object_memory.declared.kinds.Kind.{Kind}
use Rattle.interpreter.specs.object_memory.declared.kinds.Kind.TheVariants.{Instance, Array}
use Rattle.interpreter.specs.object_memory.declared.values.Value.{Value}
use Rattle.interpreter.specs.object_memory.Cells.{Cell}
use Rattle.interpreter.specs.threads_monitors.Frames.{Frame, Frames}
use Rattle.interpreter.specs.threads_monitors.declared.threads.ThreadStatus.{ThreadStatus}
use Rattle.interpreter.specs.threads_monitors.declared.threads.ThreadStatus.TheVariants.{Live}
use Rattle.interpreter.specs.threads_monitors.declared.threads.Thread.{Thread}
use Rattle.simulation.specs.Agreement.{Agree}
use Rattle.simulation.specs.Refines.{Names, Extends, IsValue, int32, int64, native, null_reference, reference, IsWord, IsOfContents, IsCell, IsObject, IsFrame, AreFrames, StatusRefines, IsThread}
use Rattle.simulation.proofs.ListLaws.AgreeingLists.{agree_weaken}
use Rattle.interpreter.specs.cil_model.declared.trees.Method.{Method}
use Rattle.interpreter.specs.cil_model.declared.trees.Code.{Code}
use Rattle.interpreter.specs.cil_model.declared.types.ClassName.{ClassName}
use Rattle.interpreter.specs.cil_model.Bodies.{code_of}
use Rattle.interpreter.specs.reference_machine.Effects.{new_frame}
use Rattle.interpreter.specs.loaded_program.AllMethods.{all_methods}
use Rattle.simulation.specs.Transitions.{thread_at}
use Rattle.simulation.proofs.Memory.InitialValues.{locals_refine}
use Rattle.interpreter.specs.object_memory.declared.values.Value.TheVariants.{Ref}

-- a value represents the same under other names, where a reference has the same name under them
pub value_renamed : (name names : Names) (v : Value) (u : StateValue) → ((a : Addr) (n : ObjectName) → v ≡ Ref a → u ≡ Reference n → name a.number ≡ Some n → names a.number ≡ Some n) → IsValue name v u → IsValue names v u
value_renamed name names v u keeps (int32 z fits) = int32 z fits
value_renamed name names v u keeps (int64 z fits) = int64 z fits
value_renamed name names v u keeps (native z fits) = native z fits
value_renamed name names v u keeps null_reference = null_reference
value_renamed name names v u keeps (reference a n is) = reference a n (keeps a n refl refl is)

module _ (name names : Names) (extends : Extends name names) where
  pub value_extends : (v : Value) (u : StateValue) → IsValue name v u → IsValue names v u
  value_extends v u = value_renamed name names v u (λ a n _ _. extends a.number n)

  pub values_extend : (vs : List Value) (us : List StateValue) → Agree (IsValue name) vs us → Agree (IsValue names) vs us
  values_extend = agree_weaken (IsValue name) (IsValue names) value_extends

  pub word_extends : (w : ℕ) (u : StateValue) → IsWord name w u → IsWord names w u
  word_extends w u h = record { value = h.value; refines = value_extends h.value u h.refines; is = h.is }

  pub words_extend : (ws : List ℕ) (us : List StateValue) → Agree (IsWord name) ws us → Agree (IsWord names) ws us
  words_extend = agree_weaken (IsWord name) (IsWord names) word_extends

  pub contents_extend : (tree : Tree) (k : Kind) (slots : List ℕ) (c : Contents) (thread : Option ℕ) → IsOfContents tree name k slots c thread → IsOfContents tree names k slots c thread
  contents_extend tree (Instance class) slots (IsInstance c fields) thread h =
      record {
        class_is = h.class_is;
        words = h.words;
        slots_are = h.slots_are;
        values = agree_weaken (λ w (x : FieldKey × StateValue). IsWord name w x.1) (λ w (x : FieldKey × StateValue). IsWord names w x.1) (λ w x k. word_extends w x.1 k) h.words fields h.values;
      }
  contents_extend tree (Array e) slots (IsArray t elements) thread h = (h.0, words_extend slots elements h.1)
  contents_extend tree _ slots _ thread h = h

  pub cell_extends : (tree : Tree) (cell : Cell) (object : HeapObject) → IsCell tree name cell object → IsCell tree names cell object
  cell_extends tree cell object h = record { contents = contents_extend tree cell.kind cell.slots object.contents object.thread h.contents; monitor = h.monitor }

  pub object_extends : (a : Option Addr) (n : Option ObjectName) → IsObject name a n → IsObject names a n
  object_extends (Some a) (Some n) h = extends a.number n h
  object_extends _ _ h = h

  module _ (tree : Tree) where
    pub frame_extends : (f : Frame) (g : StateFrame) → IsFrame tree name f g → IsFrame tree names f g
    frame_extends f g h = record {
      method = h.method;
      pc = h.pc;
      arguments = values_extend f.arguments g.arguments h.arguments;
      locals = values_extend f.locals g.locals h.locals;
      stack = values_extend f.stack g.stack h.stack;
      constructed = object_extends f.constructed g.constructed h.constructed;
    }

    pub frame_list_extends : (fs : List Frame) (gs : List StateFrame) → Agree (IsFrame tree name) fs gs → Agree (IsFrame tree names) fs gs
    frame_list_extends = agree_weaken (IsFrame tree name) (IsFrame tree names) frame_extends

    pub frames_extend : (limits : Limits) (m : Frames) (gs : List StateFrame) → AreFrames tree limits name m gs → AreFrames tree limits names m gs
    frames_extend limits m gs h = record { frames = frame_list_extends (m.running ∷ m.below) gs h.frames; depth = h.depth; few = h.few; room = h.room }

    pub status_extends : (limits : Limits) (thread_status : ThreadStatus) (gs : List StateFrame) (e : Option End) → StatusRefines tree limits name thread_status gs e → StatusRefines tree limits names thread_status gs e
    status_extends limits (Live m) gs None h = frames_extend limits m gs h
    status_extends limits _ gs _ h = h

    pub thread_extends : (limits : Limits) (t : Thread) (u : StateThread) → IsThread tree limits name t u → IsThread tree limits names t u
    thread_extends limits t u h = record { thread_status = status_extends limits t.thread_status u.frames u.ended h.thread_status; steps_left = h.steps_left }

-- ---- A thread at the beginning of a method represents one of the reference machine.

module _ (name : Names) where
  pub beginning_refines : (tree : Tree) (limits : Limits) → 1 ≤ limits.depth → (found : ClassName × Method) (code : Code) → code_of found.1.kind ≡ Some code → (n : ℕ) → slice_get (all_methods tree) n ≡ Some found →
      (arguments : List Value) (arguments' : List StateValue) → Agree (IsValue name) arguments arguments' →
      IsThread tree limits name (thread_at limits found arguments n) (record { frames = new_frame found.0 found.1 code arguments' None ∷ []; steps_left = limits.budget; ended = None })
  beginning_refines tree limits deep found code has_code n refines arguments arguments' h = record {
    thread_status = record {
      frames = (record { method = refines; pc = refl; arguments = h; locals = locals_refine name found.1 code has_code; stack = tt; constructed = tt }, tt);
      depth = refl;
      few = deep;
      room = refl;
    };
    steps_left = refl;
  }

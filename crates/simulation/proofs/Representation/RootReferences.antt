-- References in frames that represent frames pass each test that named addresses pass; and frames whose references pass a test stand under the names
-- of what passes.
use Rattle.std.proofs.Common.{◌≡◌, ℕ, List, [], ◌∷◌, Option, Some, None, slice_get, true, refl, subst}
use Rattle.std.specs.Prelude.{option_to_list}
use Rattle.interpreter.specs.cil_model.declared.limits.Limits.{Limits}
use Rattle.interpreter.specs.cil_model.declared.trees.Tree.{Tree}
use Rattle.interpreter.specs.cil_model.Fields.{FieldKey}
use Rattle.interpreter.specs.reference_machine.Values.{ObjectName, Value as StateValue}
use Rattle.interpreter.specs.reference_machine.States.{Frame as StateFrame}
use Rattle.interpreter.specs.object_memory.declared.addresses.Addr.{Addr}
use Rattle.interpreter.specs.object_memory.declared.values.Value.{Value}
use Rattle.collector.specs.References.{Test, ValuePasses}
use Rattle.collector.specs.Soundness.{IsListed}
use Rattle.interpreter.specs.threads_monitors.Frames.{Frame, Frames}
use Rattle.interpreter.specs.threads_monitors.Roots.{roots}
use Rattle.simulation.specs.Agreement.{Agree}
use Rattle.simulation.specs.Refines.{AreFrames, Names, IsValue, null_reference, reference, IsObject, IsFrame, StatusRefines}
use Rattle.simulation.proofs.ListLaws.AgreeingLists.{agree_at}
use Rattle.simulation.proofs.Representation.MoreNames.{value_renamed}
use Rattle.interpreter.specs.threads_monitors.declared.threads.ThreadStatus.{ThreadStatus}
use Rattle.interpreter.specs.threads_monitors.declared.threads.ThreadStatus.TheVariants.{Live}
use Rattle.interpreter.specs.cil_model.declared.reports.End.{End}
use Rattle.simulation.proofs.Representation.FrameReferences.{FramePasses, Passes, roots_pass as roots_of_frames, roots_passed}
use Rattle.std.specs.List.{AllByRecursion}

-- ---- lists

-- what follows of any two items that agree is true of each item of the first list
pub each_of_agree : {A B : Type 0} (P : A → Type 0) (R : A → B → Type 0) → ((x : A) (y : B) → R x y → P x) → (xs : List A) (ys : List B) → Agree R xs ys → AllByRecursion P xs
each_of_agree P R f [] ys h = tt
each_of_agree P R f (x ∷ xs) (y ∷ ys) h = (f x y h.0, each_of_agree P R f xs ys h.1)
each_of_agree P R f (x ∷ xs) [] h = elim h [ ]

-- lists agree in another relation, where it follows of what is true of each item
agree_each : {A B : Type 0} (P : A → Type 0) (R S : A → B → Type 0) → ((x : A) (y : B) → P x → R x y → S x y) → (xs : List A) (ys : List B) → AllByRecursion P xs → Agree R xs ys → Agree S xs ys
agree_each P R S f [] [] each h = h
agree_each P R S f (x ∷ xs) (y ∷ ys) each h = (f x y each.0 h.0, agree_each P R S f xs ys each.1 h.1)
agree_each P R S f _ _ each h = elim h [ ]

-- ---- what has a name is live

module _ (name : Names) (test : Test) (nulls : test (record { number = 0 }) ≡ true) (named : (a : ℕ) (n : ObjectName) → name a ≡ Some n → test (record { number = a }) ≡ true) where
  pub value_passes : (v : Value) (u : StateValue) → IsValue name v u → ValuePasses test v
  value_passes v u null_reference = nulls
  value_passes v u (reference a n is) = named a.number n is
  value_passes v u _ = tt

  values_pass : (vs : List Value) (us : List StateValue) → Agree (IsValue name) vs us → AllByRecursion (ValuePasses test) vs
  values_pass = each_of_agree (ValuePasses test) (IsValue name) value_passes

  object_passes : (o : Option Addr) (n : Option ObjectName) → IsObject name o n → AllByRecursion (Passes test) (option_to_list o)
  object_passes None n h = tt
  object_passes (Some a) (Some n) h = (named a.number n h, tt)
  object_passes (Some a) None h = elim h [ ]

  module _ (tree : Tree) where
    -- the references of a frame
    frame_passes : (f : Frame) (g : StateFrame) → IsFrame tree name f g → FramePasses test f
    frame_passes f g h = record {
      arguments = values_pass f.arguments g.arguments h.arguments;
      locals = values_pass f.locals g.locals h.locals;
      stack = values_pass f.stack g.stack h.stack;
      constructed = object_passes f.constructed g.constructed h.constructed;
    }

    -- those of a thread
    pub roots_pass : (m : Frames) (gs : List StateFrame) → Agree (IsFrame tree name) (m.running ∷ m.below) gs → (a : Addr) → IsListed (roots m) a → test a ≡ true
    roots_pass m gs agree = roots_of_frames test m (each_of_agree (FramePasses test) (IsFrame tree name) frame_passes (m.running ∷ m.below) gs agree)

  -- static fields
  pub statics_pass : (vs : List Value) (fs : List (FieldKey × StateValue)) → Agree (λ v (f : FieldKey × StateValue). IsValue name v f.1) vs fs → (number : ℕ) (v : Value) → slice_get vs number ≡ Some v → ValuePasses test v
  statics_pass vs fs agree number v is = let found = agree_at (λ w (f : FieldKey × StateValue). IsValue name w f.1) vs fs agree number v is in value_passes v found.0.1 found.2

-- ---- what passes keeps its name

module _ (test : Test) (name names : Names) (kept : (a : ℕ) (n : ObjectName) → test (record { number = a }) ≡ true → name a ≡ Some n → names a ≡ Some n) where
  -- a value, and those of a list and of a frame
  pub value_kept : (v : Value) (u : StateValue) → ValuePasses test v → IsValue name v u → IsValue names v u
  value_kept v u passes = value_renamed name names v u (λ a n is _. kept a.number n (subst (ValuePasses test) is passes))

  values_kept : (vs : List Value) (us : List StateValue) → AllByRecursion (ValuePasses test) vs → Agree (IsValue name) vs us → Agree (IsValue names) vs us
  values_kept = agree_each (ValuePasses test) (IsValue name) (IsValue names) value_kept

  object_kept : (o : Option Addr) (n : Option ObjectName) → AllByRecursion (Passes test) (option_to_list o) → IsObject name o n → IsObject names o n
  object_kept (Some a) (Some n) each h = kept a.number n each.0 h
  object_kept _ _ each h = h

  module _ (tree : Tree) where
    frame_kept : (f : Frame) (g : StateFrame) → FramePasses test f → IsFrame tree name f g → IsFrame tree names f g
    frame_kept f g passes h = record {
      method = h.method;
      pc = h.pc;
      arguments = values_kept f.arguments g.arguments passes.arguments h.arguments;
      locals = values_kept f.locals g.locals passes.locals h.locals;
      stack = values_kept f.stack g.stack passes.stack h.stack;
      constructed = object_kept f.constructed g.constructed passes.constructed h.constructed;
    }

    -- the frames of a thread whose roots pass
    pub frames_kept : (limits : Limits) (m : Frames) (gs : List StateFrame) → AreFrames tree limits name m gs → ((a : Addr) → IsListed (roots m) a → test a ≡ true) → AreFrames tree limits names m gs
    frames_kept limits m gs h pass = record {
      frames = agree_each (FramePasses test) (IsFrame tree name) (IsFrame tree names) frame_kept (m.running ∷ m.below) gs (roots_passed test m pass) h.frames;
      depth = h.depth;
      few = h.few;
      room = h.room;
    }

    -- so a thread does, if it is live
    pub status_kept : (limits : Limits) (thread_status : ThreadStatus) (gs : List StateFrame) (e : Option End) → ((m : Frames) → thread_status ≡ Live m → (a : Addr) → IsListed (roots m) a → test a ≡ true) →
        StatusRefines tree limits name thread_status gs e → StatusRefines tree limits names thread_status gs e
    status_kept limits (Live m) gs None pass h = frames_kept limits m gs h (pass m refl)
    status_kept limits _ gs _ pass h = h

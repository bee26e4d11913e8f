-- What each instruction leaves to other threads; and where it blocks, what its thread waits for.
use Rattle.std.proofs.Common.{◌≡◌, ◌++◌, ◌==◌, ℕ, true, List, [], ◌∷◌, Some, option_and_then, refl, ap, ◌∙◌, subst}
use Rattle.reference_machine.specs.Values.{ObjectName, Value, Int32, Int64, Native, Null, Reference}
use Rattle.reference_machine.specs.States.{Monitor, Free, Held, HeapObject, Frame, State, object_at, monitor_of, with_monitor}
use Rattle.reference_machine.specs.Effects.{StepContext, Effect}
use Rattle.reference_machine.specs.BuiltIn.{Action, Construct, Write, Enter, Exit, Start, Join}
use Rattle.reference_machine.specs.Steps.{effect_of}
use Rattle.reference_machine.proofs.Runs.InstructionEffects.{Allowed, AnyFault, IsOfSteps, effect_ok}
use Rattle.reference_machine.specs.Waits.{Wait, called_action, end_awaited, held_by_another, top_object, wait_by, wait_in}
use Rattle.reference_machine.proofs.Deadlocks.OtherThreads.{KeepsOthers, itself_keeps, monitor_keeps, birth_keeps, field_keeps, element_keeps, aside_keeps, start_keeps}

-- the frame's thread waits
abbrev pub IsWaiting : StepContext → State → Frame → Type 0
IsWaiting here s f = (w : Wait) × (wait_in here.tree s here.thread f ≡ Some w)

-- an effect that keeps what other threads have; one that blocks, where the frame's thread waits
abbrev pub LeavesOthers : StepContext → State → Frame → Effect → Type 0
LeavesOthers here s f e = Allowed (KeepsOthers here.thread s) (IsWaiting here s f) AnyFault e

-- ---- monitors and stacks

free_is_not_held : {A : Type 0} (owner count : ℕ) → Free ≡ Held owner count → A
free_is_not_held owner count e = absurd cc

same_owner : (a b c d : ℕ) → Held a c ≡ Held b d → a ≡ b
same_owner a b c d e = cc

-- the topmost value alone counts
same_top : (v : Value) (rest : List Value) → top_object (v ∷ rest) ≡ top_object (v ∷ [])
same_top (Int32 z) rest = refl
same_top (Int64 z) rest = refl
same_top (Native z) rest = refl
same_top Null rest = refl
same_top (Reference n) rest = refl

pub waits_by_top : (s : State) (t : ℕ) (a : Action) (v : Value) (rest : List Value) → wait_by s t a (v ∷ rest) ≡ wait_by s t a (v ∷ [])
waits_by_top s t Enter v rest = ap (option_and_then (λ n. option_and_then (held_by_another n t) (monitor_of s n))) (same_top v rest)
waits_by_top s t Join v rest = ap (option_and_then (λ n. option_and_then (λ (o : HeapObject). option_and_then (end_awaited s) o.thread) (object_at s n))) (same_top v rest)
waits_by_top s t Construct v rest = refl
waits_by_top s t Write v rest = refl
waits_by_top s t Exit v rest = refl
waits_by_top s t Start v rest = refl

-- ---- instructions

module _ (here : StepContext) (s : State) where
  -- a monitor of the thread's own may change
  own_keeps : (n : ObjectName) (owner count : ℕ) (m : Monitor) → monitor_of s n ≡ Some (Held owner count) → (owner == here.thread) ≡ true → KeepsOthers here.thread s (with_monitor s n m)
  own_keeps n owner count m h own = monitor_keeps here.thread s n (Held owner count) m h (λ k c e. subst (λ x. (x == here.thread) ≡ true) (same_owner owner k count c e) own)

  others_keep : IsOfSteps here s (KeepsOthers here.thread s)
  others_keep = record {
    stays = itself_keeps here.thread s;
    prints = λ line. aside_keeps here.thread s s.statics (s.printed ++ line);
    bears = birth_keeps here.thread s;
    stores = field_keeps here.thread s;
    stores_static = λ k v statics e. aside_keeps here.thread s statics s.printed;
    stores_element = element_keeps here.thread s;
    enters = λ n h. monitor_keeps here.thread s n Free (Held here.thread 1) h (λ owner count e. free_is_not_held owner count e);
    enters_again = λ n owner count h own. own_keeps n owner count _ h own;
    exits = λ n owner count h own. own_keeps n owner count _ h own;
    starts = λ f below n o first there new. start_keeps here.thread s n o _ _ there new;
  }

  -- whatever the running frame is at; a call of a member that acts waits for what the action waits for
  pub effect_keeps : (f : Frame) (below : List Frame) → LeavesOthers here s f (effect_of here s (f ∷ below))
  effect_keeps f below = effect_ok here s f below others_keep (λ i at a acts v rest stack w h. (
    w,
    ap (option_and_then (λ x. option_and_then (λ b. wait_by s here.thread b f.stack) (called_action here.tree x))) at ∙
        (ap (option_and_then (λ b. wait_by s here.thread b f.stack)) acts ∙ (ap (wait_by s here.thread a) stack ∙ (waits_by_top s here.thread a v rest ∙ h))),
  ))

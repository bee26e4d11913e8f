-- What local instructions keep: the frames below, the room, and the method that runs. All but operations on two integers advance.
use Rattle.std.proofs.Common.{◌≡◌, ℕ, ℤ, pos, negsuc, Bool, true, false, if◌then◌else◌, List, [], ◌∷◌, Option, Some, None, Result, Ok, Err, refl, ap, ◌∙◌, subst}
use Rattle.std.specs.Prelude.{◌+◌, nat_lt, not, length, slice_get}
use Rattle.std.specs.Int.{w32, cast_unsigned}
use Rattle.std.proofs.lemmas.Option.{same_Some}
use Rattle.cil_model.proofs.Lists.{none_is_some}
use Rattle.cil_model.specs.declared.instructions.BinaryOperation.{BinaryOperation}
use Rattle.cil_model.specs.declared.limits.TheConstants.{MOST_INSTRUCTIONS}
use Rattle.cil_model.specs.declared.reports.Fault.{Fault}
use Rattle.cil_model.specs.Bodies.{at_index}
use Rattle.object_memory.specs.declared.values.Value.{Value}
use Rattle.object_memory.specs.declared.values.Value.TheVariants.{Int32, Int64}
use Rattle.cil_model.specs.declared.instructions.BranchCondition.TheVariants as conditions
use Rattle.loaded_program.specs.declared.instructions.LinkedInstruction.{LinkedInstruction}
use Rattle.loaded_program.specs.declared.instructions.LinkedInstruction.TheVariants as Linked
use Rattle.threads_monitors.specs.declared.effects.Effect.{Effect}
use Rattle.threads_monitors.specs.declared.effects.Effect.TheVariants.{Continues, Raises}
use Rattle.threads_monitors.specs.Frames.{Frames, size, with_argument, with_local, with_pc, with_running, with_stack}
use Rattle.instructions.specs.Frames.{Transition, binary_result, branch_if, when_some, in_32_bits, in_64_bits, is_set, jump, value_pushed, result_pushed, one_or_zero, onward, shift_result, store_in, switch_on, to_pc, top_of, unary_result, with_top}
use Rattle.instructions.specs.LocalTransitions.{integers_branch, integers_compared}
use Rattle.interpreter.specs.Local.{local_link_transition}

-- frames after an instruction, with its outcome: only the running frame is another, of the same method; a plain instruction advances
pub record Keeps (plain : Bool) (m : Frames) (x : Frames × Effect) : Type 0 where
  pub frames : x.0 ≡ with_running m x.0.running
  pub method : x.0.running.method ≡ m.running.method
  pub goes : plain ≡ true → x.1 ≡ Continues

abbrev pub TransitionKeeps : Bool → Frames → Transition → Type 0
TransitionKeeps plain m t = (x : Frames × Effect) → t ≡ Some x → Keeps plain m x

module _ (plain : Bool) where
  none_keeps : (m : Frames) → TransitionKeeps plain m None
  none_keeps m x e = none_is_some x e

  some_keeps : (m n : Frames) → n ≡ with_running m n.running → n.running.method ≡ m.running.method → TransitionKeeps plain m (Some (n, Continues))
  some_keeps m n frames method x e =
      let same : (n, Continues) ≡ x = same_Some (n, Continues) x e in
      subst (Keeps plain m) same (record { frames = frames; method = method; goes = λ _. refl })

  if_keeps : (b : Bool) (m : Frames) (t u : Transition) → TransitionKeeps plain m t → TransitionKeeps plain m u → TransitionKeeps plain m (if b then t else u)
  if_keeps true m t u h k = h
  if_keeps false m t u h k = k

  jump_keeps : (pc : ℕ) (m : Frames) → TransitionKeeps plain m (jump pc m)
  jump_keeps pc m = if_keeps (nat_lt pc MOST_INSTRUCTIONS) m (Some (with_pc m pc, Continues)) None (some_keeps m (with_pc m pc) refl refl) (none_keeps m)

  onward_keeps : (m : Frames) → TransitionKeeps plain m (onward m)
  onward_keeps m = if_keeps (nat_lt m.running.pc MOST_INSTRUCTIONS) m (Some (with_pc m (m.running.pc + 1), Continues)) None (some_keeps m (with_pc m (m.running.pc + 1)) refl refl) (none_keeps m)

  -- from another running frame of the same method
  from_other : (m n : Frames) → n ≡ with_running m n.running → n.running.method ≡ m.running.method → (t : Transition) → TransitionKeeps plain n t → TransitionKeeps plain m t
  from_other m n frames method t h x e =
      let k = h x e in
      record { frames = k.frames ∙ ap (λ (y : Frames). with_running y x.0.running) frames; method = k.method ∙ method; goes = k.goes }

  leaves_keeps : (v : Value) (m : Frames) → TransitionKeeps plain m (value_pushed v m)
  leaves_keeps v m =
      if_keeps (nat_lt (size m.running) m.room) m (onward (with_stack m (v ∷ m.running.stack))) None
      (from_other m (with_stack m (v ∷ m.running.stack)) refl refl (onward (with_stack m (v ∷ m.running.stack))) (onward_keeps (with_stack m (v ∷ m.running.stack)))) (none_keeps m)

  branch_keeps : (b : Bool) (pc : ℕ) (m : Frames) → TransitionKeeps plain m (branch_if b pc m)
  branch_keeps true pc m = jump_keeps pc m
  branch_keeps false pc m = onward_keeps m

  top_keeps : (m : Frames) (go : Value → Frames → Transition) → ((v : Value) (rest : List Value) → TransitionKeeps plain (with_stack m rest) (go v (with_stack m rest))) → TransitionKeeps plain m (with_top m go)
  top_keeps m go keeps = by_stack m.running.stack
    where
      by_stack : (stack : List Value) → TransitionKeeps plain m (top_of stack m go)
      by_stack [] = none_keeps m
      by_stack (v ∷ rest) = from_other m (with_stack m rest) refl refl (go v (with_stack m rest)) (keeps v rest)

  given_keeps : {X : Type 0} (x : Option X) (m : Frames) (go : X → Transition) → ((a : X) → TransitionKeeps plain m (go a)) → TransitionKeeps plain m (when_some x go)
  given_keeps None m go keeps = none_keeps m
  given_keeps (Some a) m go keeps = keeps a

  stored_keeps : {X : Type 0} (m : Frames) (store : ℕ → Frames) (xs : List X) (n : ℤ) → ((i : ℕ) → (store i ≡ with_running m (store i).running) × ((store i).running.method ≡ m.running.method)) → TransitionKeeps plain m (store_in store xs n)
  stored_keeps m store xs (pos n) same = if_keeps (nat_lt n (length xs)) m (onward (store n)) None (from_other m (store n) (same n).0 (same n).1 (onward (store n)) (onward_keeps (store n))) (none_keeps m)
  stored_keeps m store xs (negsuc n) same = none_keeps m

  pc_keeps : (pc : Option ℕ) (m : Frames) → TransitionKeeps plain m (to_pc pc m)
  pc_keeps None m = onward_keeps m
  pc_keeps (Some pc) m = jump_keeps pc m

  switch_keeps : (pcs : List ℕ) (v : Value) (m : Frames) → TransitionKeeps plain m (switch_on pcs v m)
  switch_keeps pcs (Int32 z) m = pc_keeps (slice_get pcs (cast_unsigned w32 z)) m
  switch_keeps pcs _ m = none_keeps m

  one_keeps : {X : Type 0} (f : Value → Option X) (go : X → Frames → Transition) → ((x : X) (k : Frames) → TransitionKeeps plain k (go x k)) → (m : Frames) → TransitionKeeps plain m (with_top m (λ v n. when_some (f v) (λ x. go x n)))
  one_keeps f go keeps m = top_keeps m (λ v n. when_some (f v) (λ x. go x n)) (λ v rest. given_keeps (f v) (with_stack m rest) (λ x. go x (with_stack m rest)) (λ x. keeps x (with_stack m rest)))

  two_keeps : {X : Type 0} (f : Value → Value → Option X) (go : X → Frames → Transition) → ((x : X) (k : Frames) → TransitionKeeps plain k (go x k)) → (m : Frames) →
      TransitionKeeps plain m (with_top m (λ w n. with_top n (λ v k. when_some (f v w) (λ x. go x k))))
  two_keeps f go keeps m = top_keeps m (λ w n. with_top n (λ v k. when_some (f v w) (λ x. go x k))) (λ w rest. one_keeps (λ v. f v w) go keeps (with_stack m rest))

result_keeps : (r : Result Value Fault) (m : Frames) → TransitionKeeps false m (result_pushed m r)
result_keeps (Ok v) m x e = leaves_keeps false v m x e
result_keeps (Err f) m x e =
    let same : (m, Raises f) ≡ x = same_Some (m, Raises f) x e in
    subst (Keeps false m) same (record { frames = refl; method = refl; goes = λ h. absurd cc })

-- all but operations on two integers
abbrev pub is_plain : LinkedInstruction → Bool
is_plain (Linked.Binary op) = false
is_plain _ = true

pub local_keeps : (l : LinkedInstruction) (m : Frames) → TransitionKeeps (is_plain l) m (local_link_transition l m)
local_keeps Linked.NoOperation m = onward_keeps true m
local_keeps (Linked.LoadInt32 z) m = leaves_keeps true (Int32 z) m
local_keeps (Linked.LoadInt64 z) m = leaves_keeps true (Int64 z) m
local_keeps Linked.LoadNull m = leaves_keeps true _ m
local_keeps (Linked.LoadArgument n) m = given_keeps true (at_index m.running.arguments n) m (λ v. value_pushed v m) (λ v. leaves_keeps true v m)
local_keeps (Linked.StoreArgument n) m =
    top_keeps true m (λ v k. store_in (λ i. with_argument k i v) k.running.arguments n)
    (λ v rest. stored_keeps true (with_stack m rest) (λ i. with_argument (with_stack m rest) i v) (with_stack m rest).running.arguments n (λ i. (refl, refl)))
local_keeps (Linked.LoadLocal n) m = given_keeps true (at_index m.running.locals n) m (λ v. value_pushed v m) (λ v. leaves_keeps true v m)
local_keeps (Linked.StoreLocal n) m =
    top_keeps true m (λ v k. store_in (λ i. with_local k i v) k.running.locals n)
    (λ v rest. stored_keeps true (with_stack m rest) (λ i. with_local (with_stack m rest) i v) (with_stack m rest).running.locals n (λ i. (refl, refl)))
local_keeps Linked.Duplicate m = top_keeps true m (λ v n. value_pushed v m) (λ v rest. from_other true (with_stack m rest) m refl refl (value_pushed v m) (leaves_keeps true v m))
local_keeps Linked.Pop m = top_keeps true m (λ v n. onward n) (λ v rest. onward_keeps true (with_stack m rest))
local_keeps (Linked.Binary op) m = two_keeps false (binary_result op) (λ r k. result_pushed k r) (λ r k. result_keeps r k) m
local_keeps (Linked.Unary op) m = one_keeps true (unary_result op) value_pushed (leaves_keeps true) m
local_keeps (Linked.Shift op) m = two_keeps true (shift_result op) value_pushed (leaves_keeps true) m
local_keeps (Linked.Compare op) m = two_keeps true (integers_compared op) (λ holds k. value_pushed (one_or_zero holds) k) (λ holds k. leaves_keeps true (one_or_zero holds) k) m
local_keeps Linked.ConvertInt32 m = one_keeps true in_32_bits value_pushed (leaves_keeps true) m
local_keeps Linked.ConvertInt64 m = one_keeps true in_64_bits value_pushed (leaves_keeps true) m
local_keeps (Linked.Branch conditions.Always pc) m = jump_keeps true pc m
local_keeps (Linked.Branch conditions.IfTrue pc) m = one_keeps true is_set (λ holds k. branch_if holds pc k) (λ holds k. branch_keeps true holds pc k) m
local_keeps (Linked.Branch conditions.IfFalse pc) m = one_keeps true is_set (λ holds k. branch_if (not holds) pc k) (λ holds k. branch_keeps true (not holds) pc k) m
local_keeps (Linked.Branch (conditions.Compare op) pc) m = two_keeps true (integers_branch op) (λ holds k. branch_if holds pc k) (λ holds k. branch_keeps true holds pc k) m
local_keeps (Linked.Switch pcs) m = top_keeps true m (switch_on pcs) (λ v rest. switch_keeps true pcs v (with_stack m rest))
local_keeps _ m = none_keeps true m

pub plain_unless : (l : LinkedInstruction) → ((op : BinaryOperation) → l ≡ Linked.Binary op → ⊥) → is_plain l ≡ true
plain_unless (Linked.Binary op) other = absurd (other op refl)
plain_unless _ other = refl

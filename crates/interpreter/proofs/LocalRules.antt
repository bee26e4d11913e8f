-- Local instructions change the frame that runs alone, whatever lies below it, and whatever else the machine holds.
use Rattle.std.proofs.Common.{◌≡◌, ℕ, ℤ, pos, negsuc, Bool, true, false, if◌then◌else◌, List, [], ◌∷◌, Option, Some, None, Result, Ok, Err, option_map, refl, ap, ◌∙◌}
use Rattle.std.specs.Prelude.{◌+◌, nat_lt, not, length, slice_get}
use Rattle.std.specs.Int.{w32, cast_unsigned}
use Rattle.cil_model.specs.declared.instructions.BranchComparison.{BranchComparison}
use Rattle.cil_model.specs.declared.instructions.BranchComparison.TheVariants as Branch
use Rattle.cil_model.specs.declared.instructions.Comparison.{Comparison}
use Rattle.cil_model.specs.declared.instructions.Comparison.TheVariants as Compare
use Rattle.cil_model.specs.declared.limits.TheConstants.{MOST_INSTRUCTIONS}
use Rattle.cil_model.specs.declared.phases.Phase.{Phase}
use Rattle.cil_model.specs.declared.reports.Fault.{Fault}
use Rattle.cil_model.specs.declared.trees.Tree.{Tree}
use Rattle.cil_model.specs.Bodies.{at_index}
use Rattle.object_memory.specs.declared.addresses.Addr.{Addr}
use Rattle.object_memory.specs.declared.values.Value.{Value}
use Rattle.object_memory.specs.declared.values.Value.TheVariants.{Int32, Int64, Ref}
use Rattle.object_memory.specs.Objects.{Objects}
use Rattle.instructions.specs.barriers.Barriers.{are_comparable}
use Rattle.cil_model.specs.declared.instructions.BranchCondition.TheVariants as conditions
use Rattle.loaded_program.specs.declared.instructions.LinkedInstruction.{LinkedInstruction}
use Rattle.loaded_program.specs.declared.instructions.LinkedInstruction.TheVariants as Linked
use Rattle.threads_monitors.specs.declared.mutators.Mutator.{Mutator}
use Rattle.threads_monitors.specs.declared.effects.Effect.{Effect}
use Rattle.threads_monitors.specs.declared.effects.Effect.TheVariants.{Continues}
use Rattle.threads_monitors.specs.Frames.{Frame, Frames, size, with_argument, with_local, with_pc, with_stack}
use Rattle.instructions.specs.Frames.{Transition, binary_result, branch_if, branch_test, compare_transition, comparison, branch_transition, when_some, in_32_bits, in_64_bits, is_set, jump, value_pushed, result_pushed, one_or_zero, onward, shift_result, store_in, switch_on, to_pc, top_of, unary_result, with_top}
use Rattle.instructions.specs.LocalTransitions.{compare_integers_transition, integers_branch, integers_compared, is_ordered, is_ordered_branch, local_branch_transition}
use Rattle.interpreter.specs.Instructions.{linked_transition, of_frames}
use Rattle.interpreter.specs.Local.{is_local_link, local_link_transition}

-- ---- over other frames

module _ (below : List Frame) (depth : ℕ) where
  -- the same frame over these
  abbrev pub moved : Frames → Frames
  moved m = record m { below = below; depth = depth }

  abbrev pub moved_transition : Transition → Transition
  moved_transition t = option_map (λ (x : Frames × Effect). (moved x.0, x.1)) t

  -- where there is a choice
  if_moves : (b : Bool) (t u : Transition) → (if b then moved_transition t else moved_transition u) ≡ moved_transition (if b then t else u)
  if_moves true t u = refl
  if_moves false t u = refl

  jump_moves : (pc : ℕ) (m : Frames) → jump pc (moved m) ≡ moved_transition (jump pc m)
  jump_moves pc m = if_moves (nat_lt pc MOST_INSTRUCTIONS) (Some (with_pc m pc, Continues)) None

  onward_moves : (m : Frames) → onward (moved m) ≡ moved_transition (onward m)
  onward_moves m = if_moves (nat_lt m.running.pc MOST_INSTRUCTIONS) (Some (with_pc m (m.running.pc + 1), Continues)) None

  leaves_moves : (v : Value) (m : Frames) → value_pushed v (moved m) ≡ moved_transition (value_pushed v m)
  leaves_moves v m =
      ap (λ t. if nat_lt (size m.running) m.room then t else None) (onward_moves (with_stack m (v ∷ m.running.stack)))
      ∙ if_moves (nat_lt (size m.running) m.room) (onward (with_stack m (v ∷ m.running.stack))) None

  branch_moves : (b : Bool) (pc : ℕ) (m : Frames) → branch_if b pc (moved m) ≡ moved_transition (branch_if b pc m)
  branch_moves true pc m = jump_moves pc m
  branch_moves false pc m = onward_moves m

  -- what continues with the topmost value
  top_moves : (m : Frames) (go go' : Value → Frames → Transition) → ((v : Value) (k : Frames) → go' v (moved k) ≡ moved_transition (go v k)) → with_top (moved m) go' ≡ moved_transition (with_top m go)
  top_moves m go go' moves = by_stack m.running.stack
    where
      by_stack : (stack : List Value) → top_of stack (moved m) go' ≡ moved_transition (top_of stack m go)
      by_stack [] = refl
      by_stack (v ∷ rest) = moves v (with_stack m rest)

  -- with what is there
  given_moves : {X : Type 0} (x : Option X) (go go' : X → Transition) → ((a : X) → go' a ≡ moved_transition (go a)) → when_some x go' ≡ moved_transition (when_some x go)
  given_moves None go go' moves = refl
  given_moves (Some a) go go' moves = moves a

  result_moves : (m : Frames) (r : Result Value Fault) → result_pushed (moved m) r ≡ moved_transition (result_pushed m r)
  result_moves m (Ok v) = leaves_moves v m
  result_moves m (Err f) = refl

  stored_moves : {X : Type 0} (store store' : ℕ → Frames) (xs : List X) (n : ℤ) → ((i : ℕ) → store' i ≡ moved (store i)) → store_in store' xs n ≡ moved_transition (store_in store xs n)
  stored_moves store store' xs (pos n) moves =
      ap (λ m. if nat_lt n (length xs) then onward m else None) (moves n)
      ∙ ap (λ t. if nat_lt n (length xs) then t else None) (onward_moves (store n))
      ∙ if_moves (nat_lt n (length xs)) (onward (store n)) None
  stored_moves store store' xs (negsuc n) moves = refl

  pc_moves : (pc : Option ℕ) (m : Frames) → to_pc pc (moved m) ≡ moved_transition (to_pc pc m)
  pc_moves None m = onward_moves m
  pc_moves (Some pc) m = jump_moves pc m

  switch_moves : (pcs : List ℕ) (v : Value) (m : Frames) → switch_on pcs v (moved m) ≡ moved_transition (switch_on pcs v m)
  switch_moves pcs (Int32 z) m = pc_moves (slice_get pcs (cast_unsigned w32 z)) m
  switch_moves pcs _ m = refl

  -- one value for another
  one_moves : {X : Type 0} (f : Value → Option X) (go : X → Frames → Transition) → ((x : X) (k : Frames) → go x (moved k) ≡ moved_transition (go x k)) → (m : Frames) →
      with_top (moved m) (λ v n. when_some (f v) (λ x. go x n)) ≡ moved_transition (with_top m (λ v n. when_some (f v) (λ x. go x n)))
  one_moves f go moves m =
      top_moves m (λ v n. when_some (f v) (λ x. go x n)) (λ v n. when_some (f v) (λ x. go x n)) (λ v k. given_moves (f v) (λ x. go x k) (λ x. go x (moved k)) (λ x. moves x k))

  -- and two for one
  two_moves : {X : Type 0} (f : Value → Value → Option X) (go : X → Frames → Transition) → ((x : X) (k : Frames) → go x (moved k) ≡ moved_transition (go x k)) → (m : Frames) →
      with_top (moved m) (λ w n. with_top n (λ v k. when_some (f v w) (λ x. go x k))) ≡ moved_transition (with_top m (λ w n. with_top n (λ v k. when_some (f v w) (λ x. go x k))))
  two_moves f go moves m =
      top_moves m (λ w n. with_top n (λ v k. when_some (f v w) (λ x. go x k))) (λ w n. with_top n (λ v k. when_some (f v w) (λ x. go x k)))
      (λ w n. one_moves (λ v. f v w) go moves n)

  -- each local instruction
  pub local_moves : (l : LinkedInstruction) (m : Frames) → local_link_transition l (moved m) ≡ moved_transition (local_link_transition l m)
  local_moves Linked.NoOperation m = onward_moves m
  local_moves (Linked.LoadInt32 z) m = leaves_moves (Int32 z) m
  local_moves (Linked.LoadInt64 z) m = leaves_moves (Int64 z) m
  local_moves Linked.LoadNull m = leaves_moves _ m
  local_moves (Linked.LoadArgument n) m = given_moves (at_index m.running.arguments n) (λ v. value_pushed v m) (λ v. value_pushed v (moved m)) (λ v. leaves_moves v m)
  local_moves (Linked.StoreArgument n) m =
      top_moves m (λ v k. store_in (λ i. with_argument k i v) k.running.arguments n) (λ v k. store_in (λ i. with_argument k i v) k.running.arguments n)
      (λ v k. stored_moves (λ i. with_argument k i v) (λ i. with_argument (moved k) i v) k.running.arguments n (λ i. refl))
  local_moves (Linked.LoadLocal n) m = given_moves (at_index m.running.locals n) (λ v. value_pushed v m) (λ v. value_pushed v (moved m)) (λ v. leaves_moves v m)
  local_moves (Linked.StoreLocal n) m =
      top_moves m (λ v k. store_in (λ i. with_local k i v) k.running.locals n) (λ v k. store_in (λ i. with_local k i v) k.running.locals n)
      (λ v k. stored_moves (λ i. with_local k i v) (λ i. with_local (moved k) i v) k.running.locals n (λ i. refl))
  local_moves Linked.Duplicate m = top_moves m (λ v n. value_pushed v m) (λ v n. value_pushed v (moved m)) (λ v k. leaves_moves v m)
  local_moves Linked.Pop m = top_moves m (λ v n. onward n) (λ v n. onward n) (λ v k. onward_moves k)
  local_moves (Linked.Binary op) m = two_moves (binary_result op) (λ r k. result_pushed k r) (λ r k. result_moves k r) m
  local_moves (Linked.Unary op) m = one_moves (unary_result op) value_pushed leaves_moves m
  local_moves (Linked.Shift op) m = two_moves (shift_result op) value_pushed leaves_moves m
  local_moves (Linked.Compare op) m = two_moves (integers_compared op) (λ holds k. value_pushed (one_or_zero holds) k) (λ holds k. leaves_moves (one_or_zero holds) k) m
  local_moves Linked.ConvertInt32 m = one_moves in_32_bits value_pushed leaves_moves m
  local_moves Linked.ConvertInt64 m = one_moves in_64_bits value_pushed leaves_moves m
  local_moves (Linked.Branch conditions.Always pc) m = jump_moves pc m
  local_moves (Linked.Branch conditions.IfTrue pc) m = one_moves is_set (λ holds k. branch_if holds pc k) (λ holds k. branch_moves holds pc k) m
  local_moves (Linked.Branch conditions.IfFalse pc) m = one_moves is_set (λ holds k. branch_if (not holds) pc k) (λ holds k. branch_moves (not holds) pc k) m
  local_moves (Linked.Branch (conditions.Compare op) pc) m = two_moves (integers_branch op) (λ holds k. branch_if holds pc k) (λ holds k. branch_moves holds pc k) m
  local_moves (Linked.Switch pcs) m = top_moves m (switch_on pcs) (switch_on pcs) (λ v k. switch_moves pcs v k)
  local_moves _ m = refl

-- ---- in any memory

module _ (phase : Phase) (o : Objects) where
  choose_none : {X : Type 0} (b : Bool) → ◌≡◌ {A = Option X} (if b then None else None) None
  choose_none true = refl
  choose_none false = refl

  ordered_references : (op : Comparison) → is_ordered op ≡ true → (a b : Addr) → comparison phase o op (Ref a) (Ref b) ≡ None
  ordered_references Compare.Equal e a b = absurd cc
  ordered_references Compare.Greater e a b = choose_none (are_comparable phase o a b)
  ordered_references Compare.Less e a b = choose_none (are_comparable phase o a b)

  compared_is : (op : Comparison) → is_ordered op ≡ true → (v w : Value) → comparison phase o op v w ≡ integers_compared op v w
  compared_is op e (Ref x) (Ref y) = ordered_references op e x y
  compared_is op e _ _ = refl

  ordered_branches : (op : BranchComparison) → is_ordered_branch op ≡ true → (a b : Addr) → branch_test phase o op (Ref a) (Ref b) ≡ None
  ordered_branches Branch.Equal e a b = absurd cc
  ordered_branches Branch.NotEqual e a b = absurd cc
  ordered_branches _ e a b = choose_none (are_comparable phase o a b)

  tested_is : (op : BranchComparison) → is_ordered_branch op ≡ true → (v w : Value) → branch_test phase o op v w ≡ integers_branch op v w
  tested_is op e (Ref x) (Ref y) = ordered_branches op e x y
  tested_is op e _ _ = refl

  -- two operands, by two tests that agree
  two_alike : {X : Type 0} (f g : Value → Value → Option X) (go : X → Frames → Transition) → ((v w : Value) → f v w ≡ g v w) → (m : Frames) →
      with_top m (λ w n. with_top n (λ v k. when_some (f v w) (λ x. go x k))) ≡ with_top m (λ w n. with_top n (λ v k. when_some (g v w) (λ x. go x k)))
  two_alike f g go alike m = by_stack m.running.stack
    where
      by_rest : (w : Value) (n : Frames) (stack : List Value) → top_of stack n (λ v k. when_some (f v w) (λ x. go x k)) ≡ top_of stack n (λ v k. when_some (g v w) (λ x. go x k))
      by_rest w n [] = refl
      by_rest w n (v ∷ rest) = ap (λ r. when_some r (λ x. go x (with_stack n rest))) (alike v w)

      by_stack : (stack : List Value) → top_of stack m (λ w n. with_top n (λ v k. when_some (f v w) (λ x. go x k))) ≡ top_of stack m (λ w n. with_top n (λ v k. when_some (g v w) (λ x. go x k)))
      by_stack [] = refl
      by_stack (w ∷ rest) = by_rest w (with_stack m rest) rest

  compare_is : (op : Comparison) → is_ordered op ≡ true → (m : Frames) → compare_transition phase op m o ≡ compare_integers_transition op m
  compare_is op e m = two_alike (comparison phase o op) (integers_compared op) (λ holds k. value_pushed (one_or_zero holds) k) (compared_is op e) m

  branch_is : (op : BranchComparison) → is_ordered_branch op ≡ true → (pc : ℕ) (m : Frames) → branch_transition phase (conditions.Compare op) pc m o ≡ local_branch_transition (conditions.Compare op) pc m
  branch_is op e pc m = two_alike (branch_test phase o op) (integers_branch op) (λ holds k. branch_if holds pc k) (tested_is op e) m

module _ (tree : Tree) (mutator : Mutator) (m : Frames) (o : Objects) (ss : List Value) (c : List ℕ) where
  -- what a linked one does is what it does to the frames
  pub local_is : (l : LinkedInstruction) → is_local_link l ≡ true → linked_transition tree mutator l m o ss c ≡ of_frames o ss c (local_link_transition l m)
  local_is (Linked.Compare op) e = ap (of_frames o ss c) (compare_is mutator.phase o op e m)
  local_is (Linked.Branch (conditions.Compare op) pc) e = ap (of_frames o ss c) (branch_is mutator.phase o op e pc m)
  local_is _ e = cc

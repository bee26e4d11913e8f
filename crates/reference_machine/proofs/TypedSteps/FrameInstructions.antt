-- Instructions that touch no object keep states typed.
use Rattle.std.proofs.Common.{◌≡◌, ◌⊎◌, ℕ, ◌+◌, ℤ, pos, negsuc, Bool, true, false, not, IsTrue, ◌&&◌, ◌||◌, if◌then◌else◌, List, [], ◌∷◌, Option, Some, None, Result, Ok, Err, slice_get, slice_set, Contains, refl, inl, inr, sym, ap, subst, lit<}
use Rattle.std.proofs.lemmas.Option.{slice_get_within, get_or_from_slice_get, same_Some}
use Rattle.std.specs.Option.{option_map_or}
use Rattle.std.specs.Int.{w32, w64, cast_unsigned}
use Rattle.cil_model.specs.declared.types.DeclaredType.{DeclaredType}
use Rattle.cil_model.specs.declared.types.Element.TheVariants.{String}
use Rattle.cil_model.specs.declared.instructions.BranchCondition.{BranchCondition}
use Rattle.cil_model.specs.declared.instructions.BranchCondition.TheVariants as conditions
use Rattle.cil_model.specs.declared.instructions.Instruction.{Instruction}
use Rattle.cil_model.specs.declared.instructions.Instruction.TheVariants.{NoOperation, LoadInt32, LoadInt64, LoadNull, LoadString, LoadArgument, StoreArgument, LoadLocal, StoreLocal, Duplicate, Pop, Binary, Unary, Shift, Compare, ConvertInt32, ConvertInt64, Branch, Switch}
use Rattle.cil_model.specs.declared.instructions.BinaryOperation.{BinaryOperation}
use Rattle.cil_model.specs.declared.instructions.UnaryOperation.{UnaryOperation}
use Rattle.cil_model.specs.declared.instructions.ShiftOperation.{ShiftOperation}
use Rattle.cil_model.specs.declared.instructions.Comparison.{Comparison}
use Rattle.cil_model.specs.declared.instructions.Comparison.TheVariants.{Equal}
use Rattle.cil_model.specs.declared.instructions.BranchComparison.{BranchComparison}
use Rattle.cil_model.specs.declared.instructions.BranchComparison.TheVariants.{Equal as BranchEqual, NotEqual}
use Rattle.cil_model.specs.declared.reports.Fault.{Fault}
use Rattle.cil_model.specs.declared.trees.Code.{Code}
use Rattle.cil_model.specs.Declarations.{plain}
use Rattle.cil_model.specs.Bodies.{lines_of, at_index, argument_types, falls_through, labels_of}
use Rattle.cil_model.specs.Legality.{IsLegal}
use Rattle.cil_model.specs.Stacks.{take_one}
use Rattle.cil_model.specs.TypeTree.{StackType, Declared, Null as NullType, i4, i8, fits}
use Rattle.cil_model.specs.FlowRules.{is_int32, is_integer, is_any_reference, is_index, are_integers, are_comparable, may_compare, may_branch, load, store}
use Rattle.cil_model.specs.Typings.{Reaches}
use Rattle.cil_model.proofs.Lists.{none_is_some}
use Rattle.cil_model.proofs.SameLaws.{both_first, both_second, either, if_true}
use Rattle.reference_machine.specs.Values.{Literal, Value, Int32, Int64, Native, Null, Reference, same_kind}
use Rattle.reference_machine.specs.Arithmetic.{binary, unary, shift, binary_value, unary_value, shift_value, equal_values, ordered_values, compare_values, branch_values, is_set, not_option, convert_32, convert_64, one_or_zero, result_as}
use Rattle.reference_machine.specs.States.{Frame, State, same_kind_or_none}
use Rattle.reference_machine.specs.Effects.{StepContext, Effect, Sticks, when_some, unless_fault}
use Rattle.reference_machine.specs.Steps.{next, branch_if, store_at, to_label, switch_on, execute}
use Rattle.reference_machine.proofs.Runs.StateChanges.{follows_itself}
use Rattle.reference_machine.specs.TypedStates.{HasType, HasStackType, HaveTypes, HaveStackTypes}
use Rattle.reference_machine.proofs.TypedStates.RunningFrames.{IsTypedEffect, IsRunning, moved, next_typed, jump_typed, branch_typed}
use Rattle.reference_machine.proofs.Programs.Literals.{literal_of_program}
use Rattle.reference_machine.proofs.TypedStates.StackOperands.{value_fits, kinds_agree, from_int32, from_integer, from_integers, from_reference, from_index, int32_typed, int64_typed, value_at, values_with, one_typed, two_typed, was_allowed}

module _ (here : StepContext) (s : State) (f : Frame) (below : List Frame) where
  abbrev Fine : Effect → Type 0
  Fine e = IsTypedEffect here.tree e

  -- an instruction at which the frame is
  abbrev At : Instruction → Type 0
  At i = IsRunning here s f below i

  -- ---- parts of an instruction

  module _ (i : Instruction) (running : At i) (falls : IsTrue (falls_through i)) where
    -- on to the next instruction with a stack whose types are the result
    on : (rest : List Value) (types : List StackType) → HaveStackTypes here.tree s rest types → types ≡ running.result → Fine (next here s f below rest)
    on rest types h e = next_typed here s f below i running falls rest (subst (HaveStackTypes here.tree s rest) e h)

    -- the pc after it is one that the result reaches
    reaches_next : Reaches here.tree running.frame.typing running.result (f.pc + 1)
    reaches_next = running.on.falls (subst (λ x. IsTrue (falls_through x)) (sym running.is) falls)

    -- to a label or on
    branches : (holds : Bool) (label : List ℕ) → Contains (labels_of i) label → (rest : List Value) (types : List StackType) → HaveStackTypes here.tree s rest types → types ≡ running.result → Fine (branch_if here s f below holds label rest)
    branches holds label named rest types h e = branch_typed here s f below i running falls holds label named rest (subst (HaveStackTypes here.tree s rest) e h)

    -- with a value that is there
    at_value : (vs : List Value) (ts : List DeclaredType) → HaveTypes here.tree s vs ts → (n : ℤ) (st : List StackType) → HaveStackTypes here.tree s f.stack st → load (at_index ts n) st ≡ Some running.result →
        Fine (when_some (at_index vs n) (λ v. next here s f below (v ∷ f.stack)))
    at_value vs ts values (negsuc n) st h e = none_is_some running.result e
    at_value vs ts values (pos n) st h e = by_type (slice_get ts n) refl e
      where
        by_value : (t : DeclaredType) → Declared t ∷ st ≡ running.result → (v : Value) → HasType here.tree s v t → (o : Option Value) → o ≡ Some v → Fine (when_some o (λ w. next here s f below (w ∷ f.stack)))
        by_value t e' v k None is = none_is_some v is
        by_value t e' v k (Some w) is = on (w ∷ f.stack) (Declared t ∷ st) (subst (λ x. HasType here.tree s x t) (sym (same_Some w v is)) k, h) e'

        by_type : (o : Option DeclaredType) → slice_get ts n ≡ o → load o st ≡ Some running.result → Fine (when_some (slice_get vs n) (λ v. next here s f below (v ∷ f.stack)))
        by_type None is e' = none_is_some running.result e'
        by_type (Some t) is e' =
            let found = value_at here.tree s vs ts values n t is in
            by_value t (same_Some (Declared t ∷ st) running.result e') found.0 found.2 (slice_get vs n) found.1

    -- another value in place of one; `go` continues with the values after it
    put : (go : List Value → Effect) (vs : List Value) (ts : List DeclaredType) → HaveTypes here.tree s vs ts → (n : ℤ) (t : DeclaredType) → at_index ts n ≡ Some t → (v : Value) → HasType here.tree s v t →
        ((vs' : List Value) → HaveTypes here.tree s vs' ts → Fine (go vs')) → Fine (when_some (store_at here s f below n v vs) go)
    put go vs ts values (negsuc n) t is v h each = none_is_some t is
    put go vs ts values (pos n) t is v h each =
        let old = value_at here.tree s vs ts values n t is in
        let P : Option Value → Type 0 = λ o. Fine (when_some (same_kind_or_none o v (slice_set vs n v)) go) in
        let Q : Option (List Value) → Type 0 = λ o. Fine (when_some o go) in
        subst P (sym old.1) (subst Q (sym (if_true (same_kind old.0 v) (Some (slice_set vs n v)) None (kinds_agree here.tree running.accepted.legal s old.0 v t old.2 h)))
        (each (slice_set vs n v) (values_with here.tree s vs ts values n t is v h)))

    -- the operand of a store fits the variable
    store_typed : (go : Value → List Value → Effect) (o : Option DeclaredType) (vs : List Value) (st : List StackType) → HaveStackTypes here.tree s vs st → store here.tree o st ≡ Some running.result →
        ((v : Value) (rest : List Value) (types : List StackType) (t : DeclaredType) → o ≡ Some t → HasType here.tree s v t → HaveStackTypes here.tree s rest types → types ≡ running.result → Fine (go v rest)) →
        Fine (take_one Sticks vs go)
    store_typed go (Some t) [] (a ∷ st) h e each = elim h [ ]
    store_typed go (Some t) (v ∷ rest) (a ∷ st) h e each = by_test (fits here.tree a t) refl e
      where
        by_test : (b : Bool) → fits here.tree a t ≡ b → (if b then Some st else None) ≡ Some running.result → Fine (go v rest)
        by_test true is e' = each v rest st t refl (value_fits here.tree running.accepted.legal s v a t is h.0) h.1 (same_Some st running.result e')
        by_test false is e' = none_is_some running.result e'
    store_typed go _ vs _ h e each = none_is_some running.result e

  -- ---- constants, arguments and locals

  pub no_operation_typed : At NoOperation → Fine (execute here s f below NoOperation)
  no_operation_typed running = on NoOperation running refl f.stack running.stack running.values (same_Some _ _ running.flows)

  pub load_int32_typed : (z : ℤ) → At (LoadInt32 z) → Fine (execute here s f below (LoadInt32 z))
  load_int32_typed z running = on (LoadInt32 z) running refl (Int32 z ∷ f.stack) (i4 ∷ running.stack) (refl, running.values) (same_Some _ _ running.flows)

  pub load_int64_typed : (z : ℤ) → At (LoadInt64 z) → Fine (execute here s f below (LoadInt64 z))
  load_int64_typed z running = on (LoadInt64 z) running refl (Int64 z ∷ f.stack) (i8 ∷ running.stack) (refl, running.values) (same_Some _ _ running.flows)

  pub load_null_typed : At LoadNull → Fine (execute here s f below LoadNull)
  load_null_typed running = on LoadNull running refl (Null ∷ f.stack) (NullType ∷ running.stack) (tt, running.values) (same_Some _ _ running.flows)

  -- a literal is a string with a monitor
  pub load_string_typed : (characters : List ℕ) → At (LoadString characters) → Fine (execute here s f below (LoadString characters))
  load_string_typed characters running =
      let lines : running.frame.code.lines ≡ lines_of f.method = sym (ap (λ (c : Option Code). option_map_or (λ (code : Code). code.lines) c []) running.frame.has_code) in
      let known = literal_of_program here.tree characters f.method f.pc running.line (subst (λ ls. slice_get ls f.pc ≡ Some running.line) lines running.at) running.is f.owner running.frame.is_declared.0 running.frame.is_declared.1 in
      on (LoadString characters) running refl (Reference (Literal characters) ∷ f.stack) (Declared (plain String) ∷ running.stack)
      (record { own = plain String; is = refl; fits = refl; monitor = running.typed.literals characters known }, running.values)
      (same_Some _ _ running.flows)

  pub load_argument_typed : (n : ℤ) → At (LoadArgument n) → Fine (execute here s f below (LoadArgument n))
  load_argument_typed n running = at_value (LoadArgument n) running refl f.arguments (argument_types f.method f.owner) running.frame.arguments n running.stack running.values running.flows

  pub load_local_typed : (n : ℤ) → At (LoadLocal n) → Fine (execute here s f below (LoadLocal n))
  load_local_typed n running = at_value (LoadLocal n) running refl f.locals running.frame.code.locals running.frame.locals n running.stack running.values running.flows

  pub store_argument_typed : (n : ℤ) → At (StoreArgument n) → Fine (execute here s f below (StoreArgument n))
  store_argument_typed n running =
      let i : Instruction = StoreArgument n in
      let types : List DeclaredType = argument_types f.method f.owner in
      store_typed i running refl _ (at_index types n) f.stack running.stack running.values running.flows (λ v rest rest_types t is h rest_typed e.
      put i running refl _ f.arguments types running.frame.arguments n t is v h (λ arguments typed.
      moved here s f below i running s running.typed (follows_itself s) arguments f.locals rest (f.pc + 1) running.result typed running.frame.locals
      (subst (HaveStackTypes here.tree s rest) e rest_typed) (reaches_next i running refl)))

  pub store_local_typed : (n : ℤ) → At (StoreLocal n) → Fine (execute here s f below (StoreLocal n))
  store_local_typed n running =
      let i : Instruction = StoreLocal n in
      let types : List DeclaredType = running.frame.code.locals in
      store_typed i running refl _ (at_index types n) f.stack running.stack running.values running.flows (λ v rest rest_types t is h rest_typed e.
      put i running refl _ f.locals types running.frame.locals n t is v h (λ locals typed.
      moved here s f below i running s running.typed (follows_itself s) f.arguments locals rest (f.pc + 1) running.result running.frame.arguments typed
      (subst (HaveStackTypes here.tree s rest) e rest_typed) (reaches_next i running refl)))

  -- ---- the stack and arithmetic

  pub duplicate_typed : At Duplicate → Fine (execute here s f below Duplicate)
  duplicate_typed running = one_typed here.tree s _ _ f.stack running.stack running.result running.values running.flows (λ v a rest types h rest_typed e.
      on Duplicate running refl (v ∷ v ∷ rest) (a ∷ a ∷ types) (h, (h, rest_typed)) (same_Some _ _ e))

  pub pop_typed : At Pop → Fine (execute here s f below Pop)
  pop_typed running = one_typed here.tree s _ _ f.stack running.stack running.result running.values running.flows (λ v a rest types h rest_typed e.
      on Pop running refl rest types rest_typed (same_Some _ _ e))

  pub binary_typed : (op : BinaryOperation) → At (Binary op) → Fine (execute here s f below (Binary op))
  binary_typed op running = two_typed here.tree s _ _ f.stack running.stack running.result running.values running.flows (λ v w a b rest types h k rest_typed e.
      let passed = was_allowed (are_integers a b) (a ∷ types) running.result e in
      from_integers here.tree running.accepted.legal s (λ x y. Fine (when_some (binary_value op x y) (λ result. unless_fault result (λ u. next here s f below (u ∷ rest))))) v w a b passed.0 h k
      (λ is x y. by_result rest (binary w32 op x y) Int32 (λ z. on (Binary op) running refl (Int32 z ∷ rest) (a ∷ types) (int32_typed here.tree running.accepted.legal s z a is, rest_typed) passed.1))
      (λ is x y. by_result rest (binary w64 op x y) Int64 (λ z. on (Binary op) running refl (Int64 z ∷ rest) (a ∷ types) (int64_typed here.tree running.accepted.legal s z a is, rest_typed) passed.1)))
    where
      by_result : (rest : List Value) (r : Result ℤ Fault) (kind : ℤ → Value) → ((z : ℤ) → Fine (next here s f below (kind z ∷ rest))) → Fine (when_some (Some (result_as kind r)) (λ result. unless_fault result (λ u. next here s f below (u ∷ rest))))
      by_result rest (Ok z) kind each = each z
      by_result rest (Err x) kind each = tt

  pub unary_typed : (op : UnaryOperation) → At (Unary op) → Fine (execute here s f below (Unary op))
  unary_typed op running = one_typed here.tree s _ _ f.stack running.stack running.result running.values running.flows (λ v a rest types h rest_typed e.
      let passed = was_allowed (is_integer a) (a ∷ types) running.result e in
      from_integer here.tree running.accepted.legal s (λ x. Fine (when_some (unary_value op x) (λ u. next here s f below (u ∷ rest)))) v a passed.0 h
      (λ is x. on (Unary op) running refl (Int32 (unary w32 op x) ∷ rest) (a ∷ types) (int32_typed here.tree running.accepted.legal s (unary w32 op x) a is, rest_typed) passed.1)
      (λ is x. on (Unary op) running refl (Int64 (unary w64 op x) ∷ rest) (a ∷ types) (int64_typed here.tree running.accepted.legal s (unary w64 op x) a is, rest_typed) passed.1))

  pub shift_typed : (op : ShiftOperation) → At (Shift op) → Fine (execute here s f below (Shift op))
  shift_typed op running = two_typed here.tree s _ _ f.stack running.stack running.result running.values running.flows (λ v w a b rest types h k rest_typed e.
      let passed = was_allowed (is_integer a && is_int32 b) (a ∷ types) running.result e in
      from_integer here.tree running.accepted.legal s (λ x. Fine (when_some (shift_value op x w) (λ u. next here s f below (u ∷ rest)))) v a (both_first _ _ passed.0) h
      (λ is x. from_int32 here.tree running.accepted.legal s (λ y. Fine (when_some (shift_value op (Int32 x) y) (λ u. next here s f below (u ∷ rest)))) w b (both_second (is_integer a) _ passed.0) k
      (λ y. on (Shift op) running refl (Int32 (shift w32 op x y) ∷ rest) (a ∷ types) (int32_typed here.tree running.accepted.legal s (shift w32 op x y) a is, rest_typed) passed.1))
      (λ is x. from_int32 here.tree running.accepted.legal s (λ y. Fine (when_some (shift_value op (Int64 x) y) (λ u. next here s f below (u ∷ rest)))) w b (both_second (is_integer a) _ passed.0) k
      (λ y. on (Shift op) running refl (Int64 (shift w64 op x y) ∷ rest) (a ∷ types) (int64_typed here.tree running.accepted.legal s (shift w64 op x y) a is, rest_typed) passed.1)))

  -- a conversion takes an integer of any size, here with what is to hold of each
  from_any_integer : (legal : IsLegal here.tree) (P : Value → Type 0) (v : Value) (a : StackType) → IsTrue (is_integer a || is_index a) → HasStackType here.tree s v a → ((z : ℤ) → P (Int32 z)) → ((z : ℤ) → P (Int64 z)) → ((z : ℤ) → P (Native z)) → P v
  from_any_integer legal P v a is h each32 each64 native = by_case (either (is_integer a) (is_index a) is)
    where
      by_case : IsTrue (is_integer a) ⊎ IsTrue (is_index a) → P v
      by_case (inl k) = from_integer here.tree legal s P v a k h (λ j. each32) (λ j. each64)
      by_case (inr k) = from_index here.tree legal s P v a k h each32 native

  pub convert_int32_typed : At ConvertInt32 → Fine (execute here s f below ConvertInt32)
  convert_int32_typed running = one_typed here.tree s _ _ f.stack running.stack running.result running.values running.flows (λ v a rest types h rest_typed e.
      let passed = was_allowed (is_integer a || is_index a) (i4 ∷ types) running.result e in
      let onto : (z : ℤ) → Fine (next here s f below (Int32 z ∷ rest)) = λ z. on ConvertInt32 running refl (Int32 z ∷ rest) (i4 ∷ types) (refl, rest_typed) passed.1 in
      from_any_integer running.accepted.legal (λ x. Fine (when_some (convert_32 x) (λ u. next here s f below (u ∷ rest)))) v a passed.0 h (λ z. onto _) (λ z. onto _) (λ z. onto _))

  pub convert_int64_typed : At ConvertInt64 → Fine (execute here s f below ConvertInt64)
  convert_int64_typed running = one_typed here.tree s _ _ f.stack running.stack running.result running.values running.flows (λ v a rest types h rest_typed e.
      let passed = was_allowed (is_integer a || is_index a) (i8 ∷ types) running.result e in
      let onto : (z : ℤ) → Fine (next here s f below (Int64 z ∷ rest)) = λ z. on ConvertInt64 running refl (Int64 z ∷ rest) (i8 ∷ types) (refl, rest_typed) passed.1 in
      from_any_integer running.accepted.legal (λ x. Fine (when_some (convert_64 x) (λ u. next here s f below (u ∷ rest)))) v a passed.0 h (λ z. onto _) (λ z. onto _) (λ z. onto _))

  -- ---- comparisons

  -- execution continues with the result of a test, or with what `transition` makes of it
  answered : (transition : Option Bool → Option Bool) → ((o : Bool) → (p : Bool) × (transition (Some o) ≡ Some p)) → (go : Bool → Effect) → ((holds : Bool) → Fine (go holds)) → (o : Bool) → Fine (when_some (transition (Some o)) go)
  answered transition turned go each o = let p = turned o in let P : Option Bool → Type 0 = λ x. Fine (when_some x go) in subst P (sym p.1) (each p.0)

  module _ (legal : IsLegal here.tree) (v w : Value) (a b : StackType) (h : HasStackType here.tree s v a) (k : HasStackType here.tree s w b) (go : Bool → Effect) (each : (holds : Bool) → Fine (go holds)) where
    -- two integers of one size have an order
    ordered_typed : (test : ℤ → ℤ → Bool) → IsTrue (are_integers a b) → Fine (when_some (ordered_values test v w) go)
    ordered_typed test is = from_integers here.tree legal s (λ x y. Fine (when_some (ordered_values test x y) go)) v w a b is h k (λ j x y. each (test x y)) (λ j x y. each (test x y))

    -- these, and two references, have a result of the test for equality; `transition` may negate it
    equal_typed : (transition : Option Bool → Option Bool) → ((o : Bool) → (p : Bool) × (transition (Some o) ≡ Some p)) → IsTrue (are_comparable a b) → Fine (when_some (transition (equal_values v w)) go)
    equal_typed transition turned is = by_case (either (are_integers a b) (is_any_reference a && is_any_reference b) is)
      where
        reported : (o : Bool) → Fine (when_some (transition (Some o)) go)
        reported = answered transition turned go each

        by_case : IsTrue (are_integers a b) ⊎ IsTrue (is_any_reference a && is_any_reference b) → Fine (when_some (transition (equal_values v w)) go)
        by_case (inl j) = from_integers here.tree legal s (λ x y. Fine (when_some (transition (equal_values x y)) go)) v w a b j h k (λ i x y. reported _) (λ i x y. reported _)
        by_case (inr j) =
            from_reference here.tree legal s (λ x. Fine (when_some (transition (equal_values x w)) go)) v a (both_first _ _ j) h
            (from_reference here.tree legal s (λ y. Fine (when_some (transition (equal_values Null y)) go)) w b (both_second (is_any_reference a) _ j) k (reported _) (λ n. reported _))
            (λ m. from_reference here.tree legal s (λ y. Fine (when_some (transition (equal_values (Reference m) y)) go)) w b (both_second (is_any_reference a) _ j) k (reported _) (λ n. reported _))

    compare_answers : (op : Comparison) → IsTrue (may_compare op a b) → Fine (when_some (compare_values op v w) go)
    compare_answers Equal is = equal_typed (λ o. o) (λ o. (o, refl)) is
    compare_answers _ is = ordered_typed _ is

    branch_answers : (op : BranchComparison) → IsTrue (may_branch op a b) → Fine (when_some (branch_values op v w) go)
    branch_answers BranchEqual is = equal_typed (λ o. o) (λ o. (o, refl)) is
    branch_answers NotEqual is = equal_typed not_option (λ o. (not o, refl)) is
    branch_answers _ is = ordered_typed _ is

  pub compare_typed : (op : Comparison) → At (Compare op) → Fine (execute here s f below (Compare op))
  compare_typed op running = two_typed here.tree s _ _ f.stack running.stack running.result running.values running.flows (λ v w a b rest types h k rest_typed e.
      let passed = was_allowed (may_compare op a b) (i4 ∷ types) running.result e in
      compare_answers running.accepted.legal v w a b h k _ (λ holds. on (Compare op) running refl (one_or_zero holds ∷ rest) (i4 ∷ types) (answer holds, rest_typed) passed.1) op passed.0)
    where
      answer : (holds : Bool) → HasStackType here.tree s (one_or_zero holds) i4
      answer true = refl
      answer false = refl

  -- ---- branches

  -- a test whether a value is set has a result
  set_answers : (legal : IsLegal here.tree) (transition : Option Bool → Option Bool) → ((o : Bool) → (p : Bool) × (transition (Some o) ≡ Some p)) → (v : Value) (a : StackType) → HasStackType here.tree s v a → IsTrue (is_integer a || is_any_reference a) →
      (go : Bool → Effect) → ((holds : Bool) → Fine (go holds)) → Fine (when_some (transition (is_set v)) go)
  set_answers legal transition turned v a h is go each = by_case (either (is_integer a) (is_any_reference a) is)
    where
      reported : (o : Bool) → Fine (when_some (transition (Some o)) go)
      reported = answered transition turned go each

      by_case : IsTrue (is_integer a) ⊎ IsTrue (is_any_reference a) → Fine (when_some (transition (is_set v)) go)
      by_case (inl j) = from_integer here.tree legal s (λ x. Fine (when_some (transition (is_set x)) go)) v a j h (λ i z. reported _) (λ i z. reported _)
      by_case (inr j) = from_reference here.tree legal s (λ x. Fine (when_some (transition (is_set x)) go)) v a j h (reported _) (λ n. reported _)

  pub branch_instruction_typed : (condition : BranchCondition) (label : List ℕ) → At (Branch condition label) → Fine (execute here s f below (Branch condition label))
  branch_instruction_typed conditions.Always label running =
      jump_typed here s f below (Branch conditions.Always label) running label (0, lit< tt, refl) f.stack (subst (HaveStackTypes here.tree s f.stack) (same_Some running.stack running.result running.flows) running.values)
  branch_instruction_typed conditions.IfTrue label running = one_typed here.tree s _ _ f.stack running.stack running.result running.values running.flows (λ v a rest types h rest_typed e.
      let passed = was_allowed (is_integer a || is_any_reference a) types running.result e in
      set_answers running.accepted.legal (λ o. o) (λ o. (o, refl)) v a h passed.0 _ (λ holds. branches (Branch conditions.IfTrue label) running refl holds label (0, lit< tt, refl) rest types rest_typed passed.1))
  branch_instruction_typed conditions.IfFalse label running = one_typed here.tree s _ _ f.stack running.stack running.result running.values running.flows (λ v a rest types h rest_typed e.
      let passed = was_allowed (is_integer a || is_any_reference a) types running.result e in
      set_answers running.accepted.legal not_option (λ o. (not o, refl)) v a h passed.0 _ (λ holds. branches (Branch conditions.IfFalse label) running refl holds label (0, lit< tt, refl) rest types rest_typed passed.1))
  branch_instruction_typed (conditions.Compare op) label running = two_typed here.tree s _ _ f.stack running.stack running.result running.values running.flows (λ v w a b rest types h k rest_typed e.
      let passed = was_allowed (may_branch op a b) types running.result e in
      branch_answers running.accepted.legal v w a b h k _ (λ holds. branches (Branch (conditions.Compare op) label) running refl holds label (0, lit< tt, refl) rest types rest_typed passed.1) op passed.0)

  pub switch_typed : (labels : List (List ℕ)) → At (Switch labels) → Fine (execute here s f below (Switch labels))
  switch_typed labels running = one_typed here.tree s _ _ f.stack running.stack running.result running.values running.flows (λ v a rest types h rest_typed e.
      let passed = was_allowed (is_int32 a) types running.result e in
      from_int32 here.tree running.accepted.legal s (λ x. Fine (switch_on here s f below labels x rest)) v a passed.0 h
      (λ z. by_label rest (subst (HaveStackTypes here.tree s rest) passed.1 rest_typed) (cast_unsigned w32 z) (slice_get labels (cast_unsigned w32 z)) refl))
    where
      -- the label of a number is one of the instruction's
      by_label : (rest : List Value) → HaveStackTypes here.tree s rest running.result → (n : ℕ) (o : Option (List ℕ)) → slice_get labels n ≡ o → Fine (to_label here s f below o rest)
      by_label rest typed n None is = next_typed here s f below (Switch labels) running refl rest typed
      by_label rest typed n (Some label) is = jump_typed here s f below (Switch labels) running label (n, slice_get_within labels n label is, get_or_from_slice_get labels n label label is) rest typed

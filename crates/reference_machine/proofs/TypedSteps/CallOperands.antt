-- The operands of a call have the types that are required.
use Rattle.std.proofs.Common.{◌≡◌, ◌≤◌, Bool, true, false, if◌then◌else◌, IsTrue, List, [], ◌∷◌, ◌++◌, length, reverse, take, drop, nat_le, Some, None, refl, sym, subst, arith}
use Rattle.std.proofs.lemmas.Bool.{and_from, le-leb}
use Rattle.std.proofs.lemmas.List.{reverse-reverse, length-reverse}
use Rattle.std.proofs.lemmas.Grind.{reverse_onto}
use Rattle.std.proofs.lemmas.Option.{same_Some}
use Rattle.cil_model.specs.declared.types.DeclaredType.{DeclaredType}
use Rattle.cil_model.specs.declared.trees.Tree.{Tree}
use Rattle.cil_model.specs.declared.reports.Fault.{Fault}
use Rattle.cil_model.specs.Assignable.{is_reference}
use Rattle.cil_model.specs.Legality.{IsLegal}
use Rattle.cil_model.specs.TypeTree.{StackType, fits}
use Rattle.cil_model.specs.FlowRules.{take_fitting, take_operands}
use Rattle.cil_model.proofs.Lists.{none_is_some}
use Rattle.cil_model.proofs.SameLaws.{never, if_true}
use Rattle.reference_machine.specs.Values.{ObjectName, Value, Int32, Int64, Native, Null, Reference, integer_zero, same_kind, is_of_kind}
use Rattle.reference_machine.specs.States.{Frame, State}
use Rattle.reference_machine.specs.Effects.{StepContext, Effect, Sticks, not_null, are_of_kinds}
use Rattle.reference_machine.specs.Steps.{operands}
use Rattle.reference_machine.specs.TypedStates.{IsObjectOf, HasType, HaveTypes, HaveStackTypes}
use Rattle.reference_machine.proofs.TypedStates.StackOperands.{object_is_reference, value_fits}
use Rattle.reference_machine.proofs.TypedStates.RunningFrames.{IsTypedEffect}

-- ---- the kind of a value

module _ (tree : Tree) (legal : IsLegal tree) (s : State) where
  -- what a reference's location holds is of its kind
  reference_kind : (v : Value) (t : DeclaredType) → IsTrue (is_reference t) → IsTrue (same_kind Null v) → IsTrue (is_of_kind t v)
  reference_kind v t r h = subst (λ x. IsTrue (same_kind x v)) (sym (if_true (is_reference t) Null (integer_zero t.element) r)) h

  -- a value of a type is of its kind
  pub typed_is_of_kind : (v : Value) (t : DeclaredType) → HasType tree s v t → IsTrue (is_of_kind t v)
  typed_is_of_kind (Int32 z) t h = subst (λ x. IsTrue (is_of_kind x (Int32 z))) (sym h) refl
  typed_is_of_kind (Int64 z) t h = subst (λ x. IsTrue (is_of_kind x (Int64 z))) (sym h) refl
  typed_is_of_kind (Native z) t h = elim h [ ]
  typed_is_of_kind Null t h = reference_kind Null t h refl
  typed_is_of_kind (Reference n) t h = reference_kind (Reference n) t (object_is_reference tree legal s n t h) refl

  -- each of a list
  pub typed_are_of_kinds : (vs : List Value) (ts : List DeclaredType) → HaveTypes tree s vs ts → IsTrue (are_of_kinds ts vs)
  typed_are_of_kinds [] [] h = refl
  typed_are_of_kinds (v ∷ vs) (t ∷ ts) h = and_from _ _ (typed_is_of_kind v t h.0) (typed_are_of_kinds vs ts h.1)
  typed_are_of_kinds _ _ h = elim h [ ]

-- ---- the operands on a stack

module _ (tree : Tree) (s : State) where
  -- values after others
  types_after : (xs ys : List Value) (ts us : List DeclaredType) → HaveTypes tree s xs ts → HaveTypes tree s ys us → HaveTypes tree s (xs ++ ys) (ts ++ us)
  types_after [] ys [] us h k = k
  types_after (x ∷ xs) ys (t ∷ ts) us h k = (h.0, types_after xs ys ts us h.1 k)
  types_after _ ys _ us h k = elim h [ ]

  -- in the other order too
  pub types_reversed : (vs : List Value) (ts : List DeclaredType) → HaveTypes tree s vs ts → HaveTypes tree s (reverse vs) (reverse ts)
  types_reversed [] [] h = h
  types_reversed (v ∷ vs) (t ∷ ts) h =
      subst (λ x. HaveTypes tree s x (reverse (t ∷ ts))) (sym (reverse_onto vs v [])) (
      subst (λ x. HaveTypes tree s (reverse vs ++ v ∷ []) x) (sym (reverse_onto ts t [])) (
      types_after (reverse vs) (v ∷ []) (reverse ts) (t ∷ []) (types_reversed vs ts h.1) (h.0, tt)))
  types_reversed _ _ h = elim h [ ]

  module _ (legal : IsLegal tree) where
    -- what a list of operands takes off a stack, from the top
    abbrev Taken : List DeclaredType → List Value → List StackType → Type 0
    Taken ts vs rest = (length ts ≤ length vs) × HaveTypes tree s (take (length ts) vs) ts × HaveStackTypes tree s (drop (length ts) vs) rest

    -- what fits, one after another
    fitting_taken : (ts : List DeclaredType) (vs : List Value) (stack rest : List StackType) → take_fitting tree ts stack ≡ Some rest → HaveStackTypes tree s vs stack → Taken ts vs rest
    fitting_taken [] vs stack rest e h = (omega arith, tt, subst (λ x. HaveStackTypes tree s vs x) (same_Some stack rest e) h)
    fitting_taken (t ∷ ts) vs [] rest e h = none_is_some rest e
    fitting_taken (t ∷ ts) [] (a ∷ stack) rest e h = elim h [ ]
    fitting_taken (t ∷ ts) (v ∷ vs) (a ∷ stack) rest e h = by_fit (fits tree a t) refl e (λ e'. fitting_taken ts vs stack rest e' h.1)
      where
        by_fit : (b : Bool) → fits tree a t ≡ b → (if b then take_fitting tree ts stack else None) ≡ Some rest → (take_fitting tree ts stack ≡ Some rest → Taken ts vs rest) → Taken (t ∷ ts) (v ∷ vs) rest
        by_fit false fit e' further = none_is_some rest e'
        by_fit true fit e' further =
            let later : Taken ts vs rest = further e' in
            let few : length ts ≤ length vs = later.0 in
            (omega (arith, few), (value_fits tree legal s v a t fit h.0, later.1), later.2)

    -- operands: one for each type, in the order in which they were pushed, and what lies below
    pub operands_taken : (types : List DeclaredType) (vs : List Value) (stack rest : List StackType) → take_operands tree types stack ≡ Some rest → HaveStackTypes tree s vs stack →
        (length types ≤ length vs) × HaveTypes tree s (reverse (take (length types) vs)) types × HaveStackTypes tree s (drop (length types) vs) rest
    operands_taken types vs stack rest e h =
        let taken : Taken (reverse types) vs rest = fitting_taken (reverse types) vs stack rest e h in
        let same_count : length (reverse types) ≡ length types = length-reverse types in
        let first : HaveTypes tree s (take (length types) vs) (reverse types) = subst (λ k. HaveTypes tree s (take k vs) (reverse types)) same_count taken.1 in
        (subst (λ k. k ≤ length vs) same_count taken.0, subst (λ x. HaveTypes tree s (reverse (take (length types) vs)) x) (reverse-reverse types) (types_reversed _ _ first), subst (λ k. HaveStackTypes tree s (drop k vs) rest) same_count taken.2)

-- ---- what continues with them

module _ (here : StepContext) (s : State) (f : Frame) (below : List Frame) (legal : IsLegal here.tree) where
  -- operands that the flow rule takes are there, and what continues with them has their types
  pub operands_typed : (types : List DeclaredType) (go : List Value → List Value → Effect) (stack rest : List StackType) → take_operands here.tree types stack ≡ Some rest → HaveStackTypes here.tree s f.stack stack →
      ((arguments vs : List Value) → HaveTypes here.tree s arguments types → HaveStackTypes here.tree s vs rest → IsTypedEffect here.tree (go arguments vs)) → IsTypedEffect here.tree (operands here s f below types go)
  operands_typed types go stack rest e h each =
      let taken = operands_taken here.tree s legal types f.stack stack rest e h in
      let arguments : List Value = reverse (take (length types) f.stack) in
      let vs : List Value = drop (length types) f.stack in
      let kinds : IsTrue (are_of_kinds types arguments) = typed_are_of_kinds here.tree legal s arguments types taken.1 in
      let some : IsTrue (nat_le (length types) (length f.stack)) = le-leb _ _ taken.0 in
      subst (λ b. IsTypedEffect here.tree (if b then (if are_of_kinds types arguments then go arguments vs else Sticks) else Sticks)) (sym some) (
      subst (λ b. IsTypedEffect here.tree (if b then go arguments vs else Sticks)) (sym kinds) (each arguments vs taken.1 taken.2))

module _ (tree : Tree) (s : State) where
  -- the object of a value of a reference's type
  pub not_null_typed : (t : DeclaredType) (v : Value) (fault : Fault) (go : ObjectName → Effect) → IsTrue (is_reference t) → HasType tree s v t → ((n : ObjectName) → IsObjectOf tree s n t → IsTypedEffect tree (go n)) → IsTypedEffect tree (not_null v fault go)
  not_null_typed t (Native z) fault go is h each = elim h [ ]
  not_null_typed t Null fault go is h each = tt
  not_null_typed t (Reference n) fault go is h each = each n h
  not_null_typed t _ fault go is h each = never (subst (λ x. IsTrue (is_reference x)) h is)

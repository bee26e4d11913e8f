use Rattle.std.proofs.Common.{◌≡◌, List, [], ◌∷◌, Some, Err, slice_get, refl, ap, ◌∙◌}
use Rattle.std.proofs.lemmas.Option.{same_Some}
use Rattle.cil_model.proofs.Lists.{none_is_some}
use Rattle.cil_model.specs.declared.instructions.BinaryOperation.{BinaryOperation}
use Rattle.cil_model.specs.declared.reports.Fault.{Fault}
use Rattle.object_memory.specs.declared.values.Value.{Value}
use Rattle.threads_monitors.specs.Frames.{Frames, with_stack}
use Rattle.instructions.specs.Frames.{binary_result, binary_transition, when_some, result_pushed, top_of, with_top}
use Rattle.instructions.specs.LocalTransitions.{IsFaulty}
use Rattle.instructions.proofs.arithmetic.binary_unless_faulty.Goals as goal

faulty : (op : BinaryOperation) (m : Frames) (v w : Value) (f : Fault) → slice_get m.running.stack 0 ≡ Some w → slice_get m.running.stack 1 ≡ Some v → binary_result op v w ≡ Some (Err f) → IsFaulty (binary_transition op m)
faulty op m v w f top below raises = by_stack m.running.stack top below
  where
    by_stack : (stack : List Value) → slice_get stack 0 ≡ Some w → slice_get stack 1 ≡ Some v → IsFaulty (top_of stack m (λ x n. with_top n (λ y k. when_some (binary_result op y x) (result_pushed k))))
    by_stack [] e h = none_is_some w e
    by_stack (x ∷ []) e h = none_is_some v h
    by_stack (x ∷ y ∷ rest) e h =
        let k : Frames = with_stack (with_stack m (y ∷ rest)) rest in
        let result : binary_result op y x ≡ Some (Err f) = ap (λ z. binary_result op z x) (same_Some y v h) ∙ ap (binary_result op v) (same_Some x w e) ∙ raises in
        (k, f, ap (λ r. when_some r (result_pushed k)) result)

pub returns-in-Err-clause-stays : goal.returns-in-Err-clause-stays
returns-in-Err-clause-stays c same = (refl, faulty c.args.operation c.args.frames.now c.operand-first.result c.operand-second.result c.in-Err.field-0 c.operand-second.ensures c.operand-first.ensures (c.binary_result.ensures ∙ ap Some c.in-Err.is))

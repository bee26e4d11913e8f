-- The object on which a virtual call is made, and the method that it runs.
use Rattle.std.proofs.Common.{◌≡◌, ◌==◌, ℕ, Bool, true, false, if◌then◌else◌, List, Option, Some, option_and_then, ap, sym, ◌∙◌, subst}
use Rattle.std.specs.Prelude.{IsSome, is_some, slice_get}
use Rattle.cil_model.specs.declared.types.ClassName.{ClassName}
use Rattle.cil_model.specs.declared.trees.Tree.{Tree}
use Rattle.cil_model.specs.declared.trees.Method.{Method}
use Rattle.cil_model.specs.declared.reports.Fault.TheVariants.{NullReference}
use Rattle.object_memory.specs.declared.addresses.Addr.{Addr}
use Rattle.object_memory.specs.Objects.{Objects}
use Rattle.loaded_program.specs.AllMethods.{all_methods}
use Rattle.loaded_program.specs.LoadedPrograms.{target_in}
use Rattle.loaded_program.proofs.OperandLaws.{then_some}
use Rattle.threads_monitors.specs.declared.mutators.Mutator.{Mutator}
use Rattle.threads_monitors.specs.Frames.{Frames}
use Rattle.threads_monitors.specs.declared.effects.Effect.TheVariants.{Raises}
use Rattle.instructions.specs.Frames.{when_some}
use Rattle.interpreter.specs.declared.outcomes.InstructionOutcome.TheVariants.{OwnEffect}
use Rattle.interpreter.specs.Calls.{CallTransition, call_answer, call_by_id, chosen_method, chosen_by, class_at, receiver, run_on, run_transition, virtual_by_id}
use Rattle.interpreter.proofs.MethodsToRun.{given_some}

module _ (tree : Tree) (mutator : Mutator) (number operands : ℕ) (m : Frames) (o : Objects) (console : List ℕ) where
  abbrev pub null_raised : CallTransition
  null_raised = Some (call_answer m o console (OwnEffect (Raises NullReference)))

  abbrev runs : ClassName × Method → CallTransition
  runs run = run_transition tree mutator run m o console

  abbrev pub received : ClassName × Method → Addr → CallTransition
  received found a = run_on tree mutator found a m o console

  -- the method that is named, and the object
  pub record Receiving : Type 0 where
    pub found : ClassName × Method
    pub object : Addr
    pub found_is : slice_get (all_methods tree) number ≡ Some found
    pub object_is : receiver m.running.stack operands ≡ Some object
    pub whole : virtual_by_id tree mutator number operands m o console ≡ received found object

  pub receiving : IsSome (virtual_by_id tree mutator number operands m o console) → Receiving
  receiving there =
      let found = given_some (slice_get (all_methods tree) number) (λ found. when_some (receiver m.running.stack operands) (received found)) there in
      let object = given_some (receiver m.running.stack operands) (received found.0) (subst IsSome found.2 there) in
      record { found = found.0; object = object.0; found_is = found.1; object_is = object.1; whole = found.2 ∙ object.2 }

  module _ (there : IsSome (virtual_by_id tree mutator number operands m o console)) (a : Addr) (is : receiver m.running.stack operands ≡ Some a) where
    abbrev call : Receiving
    call = receiving there

    same : virtual_by_id tree mutator number operands m o console ≡ received call.found a
    same =
        let e = call.object_is in
        let one : call.object ≡ a = cc in
        call.whole ∙ ap (received call.found) one

    -- null
    pub on_null : (a.number == 0) ≡ true → virtual_by_id tree mutator number operands m o console ≡ null_raised
    on_null null = same ∙ ap (λ (b : Bool). if b then null_raised else when_some (chosen_method tree o a call.found) runs) null

    -- or an object: its class, and the method that runs on objects of that
    pub record Choosing : Type 0 where
      pub class : Option ℕ
      pub run : ClassName × Method
      pub class_is : class_at o a ≡ Some class
      pub run_is : target_in tree number class ≡ Some run
      pub whole : virtual_by_id tree mutator number operands m o console ≡ runs run

    pub choosing : (a.number == 0) ≡ false → Choosing
    choosing object =
        let whole : virtual_by_id tree mutator number operands m o console ≡ when_some (chosen_method tree o a call.found) runs =
        same ∙ ap (λ (b : Bool). if b then null_raised else when_some (chosen_method tree o a call.found) runs) object in
        let run = given_some (chosen_method tree o a call.found) runs (subst IsSome whole there) in
        let class = then_some (chosen_by tree call.found) (class_at o a) run.0 run.1 in
        record {
          class = class.0;
          run = run.0;
          class_is = class.1;
          run_is = ap (option_and_then (λ found. chosen_by tree found class.0)) call.found_is ∙ class.2;
          whole = whole ∙ run.2;
        }

    -- which the target is
    pub target_runs : (object : (a.number == 0) ≡ false) (class : Option ℕ) (target : ℕ) → class_at o a ≡ Some class → slice_get (all_methods tree) target ≡ target_in tree number class
        → virtual_by_id tree mutator number operands m o console ≡ call_by_id tree mutator target m o console
    target_runs object class target class_is target_is =
        let choice = choosing object in
        let e = choice.class_is in
        let one : choice.class ≡ class = cc in
        let there : slice_get (all_methods tree) target ≡ Some choice.run = target_is ∙ ap (target_in tree number) (sym one) ∙ choice.run_is in
        choice.whole ∙ sym (ap (λ x. when_some x runs) there)

    pub target_there : (object : (a.number == 0) ≡ false) (class : Option ℕ) → class_at o a ≡ Some class → IsSome (target_in tree number class)
    target_there object class class_is =
        let choice = choosing object in
        let e = choice.class_is in
        let one : choice.class ≡ class = cc in
        ap is_some (ap (target_in tree number) (sym one) ∙ choice.run_is)

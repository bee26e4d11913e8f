-- What runs for a method of a number, by what a loaded program has of it.
use Rattle.std.proofs.Common.{◌≡◌, ℕ, List, Option, Some, None, option_map, refl, ap, ◌∙◌}
use Rattle.std.specs.Prelude.{IsSome, length, slice_get}
use Rattle.cil_model.specs.Bodies.{argument_types}
use Rattle.cil_model.specs.declared.values.ValueKind.{ValueKind}
use Rattle.loaded_program.specs.LoadedPrograms.{IsLoadedMethod}
use Rattle.loaded_program.specs.declared.loaded_methods.LoadedMethod.{LoadedMethod}
use Rattle.std.specs.Option.{option_map_or}
use Rattle.cil_model.specs.declared.types.ClassName.{ClassName}
use Rattle.cil_model.specs.declared.trees.Tree.{Tree}
use Rattle.cil_model.specs.declared.trees.Method.{Method}
use Rattle.reference_machine.specs.BuiltIn.{Action, action_of}
pub use Rattle.loaded_program.proofs.OperandLaws.{alike_both, alike_none}
use Rattle.object_memory.specs.Objects.{Objects}
use Rattle.loaded_program.specs.AllMethods.{all_methods}
use Rattle.loaded_program.specs.MethodNumbers.{number_of}
use Rattle.threads_monitors.specs.declared.mutators.Mutator.{Mutator}
use Rattle.threads_monitors.specs.Frames.{Frames}
use Rattle.instructions.specs.Frames.{Transition, when_some}
use Rattle.instructions.specs.ObjectTransitions.{with_objects}
use Rattle.instructions.specs.Calls.{call_transition, new_object_transition, new_plain_object_transition}
use Rattle.interpreter.specs.Calls.{act_transition, with_console, call_by_id, called_method, make_object, made_by_id, run_transition}

-- ---- options

pub there_is : {X : Type 0} (o : Option X) → IsSome o → (x : X) × (o ≡ Some x)
there_is (Some x) there = (x, refl)
there_is None there = absurd cc

pub mapped_there : {X Y : Type 0} (f : X → Y) (o : Option X) → IsSome (option_map f o) → IsSome o
mapped_there f (Some x) there = refl
mapped_there f None there = there

-- what is given is passed on
pub given_some : {X R : Type 0} (o : Option X) (go : X → Option R) → IsSome (when_some o go) → (x : X) × (o ≡ Some x) × (when_some o go ≡ go x)
given_some (Some x) go there = (x, refl, refl)
given_some None go there = absurd cc

pub given_there : {X R : Type 0} (o : Option X) (go : X → Option R) → IsSome (when_some o go) → IsSome o
given_there (Some x) go there = refl
given_there None go there = there

-- ---- a method that runs

-- a loaded method is called as the rule says
pub called_alike : (tree : Tree) (found : ClassName × Method) (loaded : LoadedMethod) (k : ℕ) (locals : List ValueKind) → IsLoadedMethod tree found loaded → locals ≡ loaded.locals.items
    → record { method = k; arguments = loaded.arguments; locals = locals } ≡ called_method found k
called_alike tree found loaded k locals known same =
    ap (λ (x : ℕ). record { method = k; arguments = x; locals = locals }) known.arguments
    ∙ ap (λ (x : List ValueKind). record { method = k; arguments = length (argument_types found.1 found.0); locals = x }) (same ∙ known.locals)

module _ (tree : Tree) (mutator : Mutator) (n : ℕ) (found : ClassName × Method) (at : slice_get (all_methods tree) n ≡ Some found) (m : Frames) (o : Objects) (console : List ℕ) where
  pub runs_found : call_by_id tree mutator n m o console ≡ run_transition tree mutator found m o console
  runs_found = ap (λ x. when_some x (λ f. run_transition tree mutator f m o console)) at

  pub run_acts : (a : Action) → action_of found.0 found.1 ≡ Some a → call_by_id tree mutator n m o console ≡ act_transition tree mutator a m o console
  run_acts a is =
      runs_found
      ∙ ap (λ x. option_map_or (λ b. act_transition tree mutator b m o console) x (when_some (number_of tree found) (λ k. with_console console (with_objects o (call_transition (called_method found k) m))))) is

  pub run_calls : action_of found.0 found.1 ≡ None → number_of tree found ≡ Some n → call_by_id tree mutator n m o console ≡ with_console console (with_objects o (call_transition (called_method found n) m))
  run_calls is has_id =
      runs_found
      ∙ ap (λ x. option_map_or (λ b. act_transition tree mutator b m o console) x (when_some (number_of tree found) (λ k. with_console console (with_objects o (call_transition (called_method found k) m))))) is
      ∙ ap (λ x. when_some x (λ k. with_console console (with_objects o (call_transition (called_method found k) m)))) has_id

  pub call_there : (t : Transition) → IsSome (with_console console (with_objects o t)) → IsSome t
  call_there t there = mapped_there _ t (mapped_there _ (with_objects o t) there)

  module _ (class slots : ℕ) where
    made_found : made_by_id tree mutator class slots n m o ≡ make_object tree mutator class slots found m o
    made_found = ap (λ x. when_some x (λ f. make_object tree mutator class slots f m o)) at

    pub made_plain : (a : Action) → action_of found.0 found.1 ≡ Some a → made_by_id tree mutator class slots n m o ≡ new_plain_object_transition mutator.phase class slots m o
    made_plain a is =
        made_found
        ∙ ap (λ x. option_map_or (λ b. new_plain_object_transition mutator.phase class slots m o) x (when_some (number_of tree found) (λ k. new_object_transition mutator.phase class slots (called_method found k) m o))) is

    pub made_called : action_of found.0 found.1 ≡ None → number_of tree found ≡ Some n → made_by_id tree mutator class slots n m o ≡ new_object_transition mutator.phase class slots (called_method found n) m o
    made_called is has_id =
        made_found
        ∙ ap (λ x. option_map_or (λ b. new_plain_object_transition mutator.phase class slots m o) x (when_some (number_of tree found) (λ k. new_object_transition mutator.phase class slots (called_method found k) m o))) is
        ∙ ap (λ x. when_some x (λ k. new_object_transition mutator.phase class slots (called_method found k) m o)) has_id

use Rattle.std.proofs.Common.{◌≡◌, ap, sym, subst, ◌∙◌, option_map, Some, None, []}
use Rattle.std.specs.Prelude.{IsSome, slice_get}
use Rattle.reference_machine.specs.BuiltIn.{action_of}
use Rattle.loaded_program.specs.AllMethods.{all_methods}
use Rattle.loaded_program.specs.LocalKinds.{action_named}
use Rattle.loaded_program.specs.LoadedPrograms.{IsLoadedMethod}
use Rattle.instructions.specs.Calls.{new_object_transition}
use Rattle.interpreter.proofs.MethodsToRun.{there_is, given_there, called_alike, made_plain, made_called}
use Rattle.interpreter.proofs.calls.create.Goals as goal

pub method-loaded-requires : goal.method-loaded-requires
method-loaded-requires c = given_there (slice_get (all_methods c.args.program.now) c.args.number) _ c.requires

pub new_plain_object-requires : goal.new_plain_object-requires
new_plain_object-requires c =
    let found = there_is (slice_get (all_methods c.args.program.now) c.args.number) (given_there (slice_get (all_methods c.args.program.now) c.args.number) _ c.requires) in
    let known : IsLoadedMethod c.args.program.now found.0 c.method-loaded.result.now = c.method-loaded.ensures.loaded found.0 found.1 in
    let acts : action_of found.0.0 found.0.1 ≡ Some (action_named c.in-Some.field-0) = sym known.action ∙ ap (option_map action_named) c.in-Some.is in
    subst IsSome (made_plain c.args.program.now c.args.mutator c.args.number found.0 found.1 c.args.frames.now c.args.heap.now [] c.args.class c.args.slots (action_named c.in-Some.field-0) acts) c.requires

pub returns-in-Some : goal.returns-in-Some
returns-in-Some c =
    let found = there_is (slice_get (all_methods c.args.program.now) c.args.number) (given_there (slice_get (all_methods c.args.program.now) c.args.number) _ c.requires) in
    let known : IsLoadedMethod c.args.program.now found.0 c.method-loaded.result.now = c.method-loaded.ensures.loaded found.0 found.1 in
    let acts : action_of found.0.0 found.0.1 ≡ Some (action_named c.in-Some.field-0) = sym known.action ∙ ap (option_map action_named) c.in-Some.is in
    c.new_plain_object.ensures ∙ sym (made_plain c.args.program.now c.args.mutator c.args.number found.0 found.1 c.args.frames.now c.args.heap.now [] c.args.class c.args.slots (action_named c.in-Some.field-0) acts)

pub new_object-requires : goal.new_object-requires
new_object-requires c =
    let found = there_is (slice_get (all_methods c.args.program.now) c.args.number) (given_there (slice_get (all_methods c.args.program.now) c.args.number) _ c.requires) in
    let known : IsLoadedMethod c.args.program.now found.0 c.method-loaded.result.now = c.method-loaded.ensures.loaded found.0 found.1 in
    let acts : action_of found.0.0 found.0.1 ≡ None = sym known.action ∙ ap (option_map action_named) c.in-None.is in
    let callee = called_alike c.args.program.now found.0 c.method-loaded.result.now c.args.number c.as_slice.result.now known c.as_slice.ensures.value in
    let runs = made_called c.args.program.now c.args.mutator c.args.number found.0 found.1 c.args.frames.now c.args.heap.now [] c.args.class c.args.slots acts (c.method-loaded.ensures.number found.0 found.1)
    ∙ ap (λ x. new_object_transition c.args.mutator.phase c.args.class c.args.slots x c.args.frames.now c.args.heap.now) (sym callee) in
    subst IsSome runs c.requires

pub returns-in-None : goal.returns-in-None
returns-in-None c =
    let found = there_is (slice_get (all_methods c.args.program.now) c.args.number) (given_there (slice_get (all_methods c.args.program.now) c.args.number) _ c.requires) in
    let known : IsLoadedMethod c.args.program.now found.0 c.method-loaded.result.now = c.method-loaded.ensures.loaded found.0 found.1 in
    let acts : action_of found.0.0 found.0.1 ≡ None = sym known.action ∙ ap (option_map action_named) c.in-None.is in
    let callee = called_alike c.args.program.now found.0 c.method-loaded.result.now c.args.number c.as_slice.result.now known c.as_slice.ensures.value in
    let runs = made_called c.args.program.now c.args.mutator c.args.number found.0 found.1 c.args.frames.now c.args.heap.now [] c.args.class c.args.slots acts (c.method-loaded.ensures.number found.0 found.1)
    ∙ ap (λ x. new_object_transition c.args.mutator.phase c.args.class c.args.slots x c.args.frames.now c.args.heap.now) (sym callee) in
    c.new_object.ensures ∙ sym runs

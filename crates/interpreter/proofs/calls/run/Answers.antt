use Rattle.std.proofs.Common.{◌≡◌, ap, sym, subst, ◌∙◌, true, option_map, Some, None}
use Rattle.std.specs.Prelude.{IsSome, IfOk, OnErr, slice_get}
use Rattle.reference_machine.specs.BuiltIn.{action_of}
use Rattle.loaded_program.specs.AllMethods.{all_methods}
use Rattle.loaded_program.specs.LocalKinds.{action_named}
use Rattle.loaded_program.specs.LoadedPrograms.{IsLoadedMethod}
use Rattle.instructions.specs.Calls.{call_transition}
use Rattle.instructions.specs.ObjectTransitions.{with_objects}
use Rattle.interpreter.specs.Calls.{with_console, called_method, grows_console, call_answer}
use Rattle.interpreter.proofs.MethodsToRun.{there_is, given_there, called_alike, run_acts, run_calls, call_there}
use Rattle.interpreter.proofs.calls.run.Goals as goal

pub method-loaded-requires : goal.method-loaded-requires
method-loaded-requires c = given_there (slice_get (all_methods c.args.program.now) c.args.number) _ c.requires

pub act-requires : goal.act-requires
act-requires c =
    let found = there_is (slice_get (all_methods c.args.program.now) c.args.number) (given_there (slice_get (all_methods c.args.program.now) c.args.number) _ c.requires) in
    let known : IsLoadedMethod c.args.program.now found.0 c.method-loaded.result.now = c.method-loaded.ensures.loaded found.0 found.1 in
    let acts : action_of found.0.0 found.0.1 ≡ Some (action_named c.in-Some.action) = sym known.action ∙ ap (option_map action_named) c.in-Some.is in
    let runs = run_acts c.args.program.now c.args.mutator c.args.number found.0 found.1 c.args.frames.now c.args.store.now.heap c.args.store.now.console.items (action_named c.in-Some.action) acts in
    subst IsSome runs c.requires

pub call-requires : goal.call-requires
call-requires c =
    let found = there_is (slice_get (all_methods c.args.program.now) c.args.number) (given_there (slice_get (all_methods c.args.program.now) c.args.number) _ c.requires) in
    let known : IsLoadedMethod c.args.program.now found.0 c.method-loaded.result.now = c.method-loaded.ensures.loaded found.0 found.1 in
    let acts : action_of found.0.0 found.0.1 ≡ None = sym known.action ∙ ap (option_map action_named) c.in-None.is in
    let runs = run_calls c.args.program.now c.args.mutator c.args.number found.0 found.1 c.args.frames.now c.args.store.now.heap c.args.store.now.console.items acts (c.method-loaded.ensures.number found.0 found.1) in
    let callee = called_alike c.args.program.now found.0 c.method-loaded.result.now c.args.number c.as_slice.result.now known c.as_slice.ensures.value in
    subst (λ x. IsSome (call_transition x c.args.frames.now)) (sym callee)
    (call_there c.args.program.now c.args.mutator c.args.number found.0 found.1 c.args.frames.now c.args.store.now.heap c.args.store.now.console.items (call_transition (called_method found.0 c.args.number) c.args.frames.now) (subst IsSome runs c.requires))

pub returns-in-Some-clause-done : goal.returns-in-Some-clause-done
returns-in-Some-clause-done c =
    let found = there_is (slice_get (all_methods c.args.program.now) c.args.number) (given_there (slice_get (all_methods c.args.program.now) c.args.number) _ c.requires) in
    let known : IsLoadedMethod c.args.program.now found.0 c.method-loaded.result.now = c.method-loaded.ensures.loaded found.0 found.1 in
    let acts : action_of found.0.0 found.0.1 ≡ Some (action_named c.in-Some.action) = sym known.action ∙ ap (option_map action_named) c.in-Some.is in
    let runs = run_acts c.args.program.now c.args.mutator c.args.number found.0 found.1 c.args.frames.now c.args.store.now.heap c.args.store.now.console.items (action_named c.in-Some.action) acts in
    subst (λ t. IfOk c.act.result (λ outcome. Some (call_answer c.act.new.frames c.act.new.store.heap c.act.new.store.console.items outcome) ≡ t)) (sym runs) c.act.ensures.done

pub returns-in-None-clause-done : goal.returns-in-None-clause-done
returns-in-None-clause-done c =
    let found = there_is (slice_get (all_methods c.args.program.now) c.args.number) (given_there (slice_get (all_methods c.args.program.now) c.args.number) _ c.requires) in
    let known : IsLoadedMethod c.args.program.now found.0 c.method-loaded.result.now = c.method-loaded.ensures.loaded found.0 found.1 in
    let acts : action_of found.0.0 found.0.1 ≡ None = sym known.action ∙ ap (option_map action_named) c.in-None.is in
    let runs = run_calls c.args.program.now c.args.mutator c.args.number found.0 found.1 c.args.frames.now c.args.store.now.heap c.args.store.now.console.items acts (c.method-loaded.ensures.number found.0 found.1) in
    let callee = called_alike c.args.program.now found.0 c.method-loaded.result.now c.args.number c.as_slice.result.now known c.as_slice.ensures.value in
    ap (λ t. with_console c.args.store.now.console.items (with_objects c.args.store.now.heap t)) (c.call.ensures ∙ ap (λ x. call_transition x c.args.frames.now) callee) ∙ sym runs

pub returns-in-Some-clause-prints : goal.returns-in-Some-clause-prints
returns-in-Some-clause-prints c =
    let found = there_is (slice_get (all_methods c.args.program.now) c.args.number) (given_there (slice_get (all_methods c.args.program.now) c.args.number) _ c.requires) in
    let known : IsLoadedMethod c.args.program.now found.0 c.method-loaded.result.now = c.method-loaded.ensures.loaded found.0 found.1 in
    let acts : action_of found.0.0 found.0.1 ≡ Some (action_named c.in-Some.action) = sym known.action ∙ ap (option_map action_named) c.in-Some.is in
    let runs = run_acts c.args.program.now c.args.mutator c.args.number found.0 found.1 c.args.frames.now c.args.store.now.heap c.args.store.now.console.items (action_named c.in-Some.action) acts in
    subst (λ t. OnErr c.act.result (grows_console c.args.store.now.console.items t ≡ true)) (sym runs) c.act.ensures.prints

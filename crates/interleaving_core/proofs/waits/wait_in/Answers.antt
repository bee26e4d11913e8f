use Rattle.std.proofs.Common.{◌≡◌, sym, ap, ◌∙◌, Some, option_map}
use Rattle.reference_machine.specs.BuiltIn as BuiltIn
use Rattle.simulation.specs.loaded_program.LocalKinds.{action_named}
use Rattle.simulation.specs.interpreter.Calls.{top_reference}
use Rattle.interleaving_core.specs.Waits.{action_at}
use Rattle.interleaving_core.proofs.waits.wait_in.Goals as goal

pub monitor_wait-requires : goal.monitor_wait-requires
monitor_wait-requires c =
    let object = c.requires.object in
    let acts : action_at c.args.engine.now.program c.args.frames.now ≡ Some BuiltIn.Enter = sym c.action_at.ensures.action ∙ ap (option_map action_named) (c.in_ok-action_at.was ∙ ap Some c.in-Enter.is) in
    let top : top_reference c.args.frames.now.running.stack ≡ Some c.in_ok-top_reference-in-Enter.field-0 = sym c.top_reference.ensures ∙ c.in_ok-top_reference-in-Enter.was in
    object.monitor c.action_at.ensures.at.0 c.action_at.ensures.at.1 acts c.in_ok-top_reference-in-Enter.field-0 top

pub join_wait-requires-clause-slot : goal.join_wait-requires-clause-slot
join_wait-requires-clause-slot c =
    let object = c.requires.object in
    let acts : action_at c.args.engine.now.program c.args.frames.now ≡ Some BuiltIn.Join = sym c.action_at.ensures.action ∙ ap (option_map action_named) (c.in_ok-action_at.was ∙ ap Some c.in-Join.is) in
    let top : top_reference c.args.frames.now.running.stack ≡ Some c.in_ok-top_reference-in-Join.field-0 = sym c.top_reference-in-Join.ensures ∙ c.in_ok-top_reference-in-Join.was in
    object.slot c.action_at.ensures.at.0 c.action_at.ensures.at.1 acts c.in_ok-top_reference-in-Join.field-0 top

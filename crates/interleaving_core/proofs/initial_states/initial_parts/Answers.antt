use Rattle.std.proofs.Common.{◌≡◌, Some, List, [], ◌∷◌, ◌++◌, length, is_some, slice_get, refl, ap, subst, ◌∙◌}
use Rattle.std.specs.List.{flat_map}
use Rattle.cil_model.specs.declared.trees.Class.{Class}
use Rattle.cil_model.specs.Legality.{IsLegal}
use Rattle.cil_model.specs.Mentions.{literals_of}
use Rattle.simulation.specs.resolved_code.Contents.{IsEntryPoint}
use Rattle.object_memory.specs.Objects.{no_objects}
use Rattle.simulation.specs.loaded_program.AllMethods.{all_methods}
use Rattle.threads_monitors.specs.declared.threads.Thread.{Thread}
use Rattle.simulation.specs.Transitions.{thread_at}
use Rattle.interleaving_core.specs.Statics.{declared_fields, zeros_of}
use Rattle.phase_handshake.specs.Handshakes.{first_handshakes}
use Rattle.simulation.specs.collector.Phases.{no_progress}
use Rattle.interleaving_core.proofs.InitialContents.InitialMachineState.{entry_there, opened_as}
use Rattle.interleaving_core.proofs.initial_states.initial_parts.Goals as goal

pub thread_start-requires-clause-there : goal.thread_start-requires-clause-there
thread_start-requires-clause-there c =
    let tree = c.args.program.now in
    let number = c.entry_point.result in
    let legal : IsLegal tree = subst IsLegal c.program.ensures c.tree.ensures.legal in
    let is : IsEntryPoint tree number = subst (λ t. IsEntryPoint t number) c.program-2.ensures c.entry_point.ensures in
    let entry = entry_there tree legal number is in
    ap is_some (c.number-entry.ensures entry.0 entry.1)

pub returns-clause-initial_state : goal.returns-clause-initial_state
returns-clause-initial_state c =
    let tree = c.args.program.now in
    let limits = c.args.limits in
    let number = c.entry_point.result in
    let legal : IsLegal tree = subst IsLegal c.program.ensures c.tree.ensures.legal in
    let is : IsEntryPoint tree number = subst (λ t. IsEntryPoint t number) c.program-2.ensures c.entry_point.ensures in
    let entry = entry_there tree legal number is in
    let there : slice_get (all_methods tree) c.number-entry.result ≡ Some entry.0 = c.number-entry.ensures entry.0 entry.1 in
    let first : c.in_ok-first.first ≡ thread_at limits entry.0 [] c.number-entry.result = c.in_ok-first.ensures ∙ c.thread_start.ensures.begins entry.0 there [] in
    let threads : c.push.new.self.items ≡ thread_at limits entry.0 [] c.number-entry.result ∷ [] =
    c.in_ok-push.ensures.items ∙ ap (λ (ts : List Thread). ts ++ c.in_ok-first.first ∷ []) c.new-threads.ensures.items ∙ ap (λ t. t ∷ []) first in
    let classes : c.as_slice.result.now ≡ tree.classes = c.as_slice.ensures ∙ ap (λ t. t.classes) (c.tree.ensures.whole ∙ c.program.ensures) in
    let statics : c.in_ok-statics.statics.items ≡ flat_map (λ (x : Class). zeros_of (declared_fields x)) tree.classes = c.in_ok-statics.ensures ∙ ap (flat_map (λ (x : Class). zeros_of (declared_fields x))) classes in
    opened_as tree legal limits entry.0 c.number-entry.result entry.2 there c.push.new.self.items threads first_handshakes refl no_progress refl
    (no_objects limits.words (length (literals_of tree))) refl c.in_ok-statics.statics.items statics [] refl

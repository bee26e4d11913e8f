use Rattle.std.proofs.Common.{◌≡◌, Some, [], ◌∷◌, ap, sym, ◌∙◌, subst, slice_get}
use Rattle.std.specs.Prelude.{is_some}
use Rattle.cil_model.specs.Legality.{IsLegal}
use Rattle.object_memory.specs.declared.values.Value.TheVariants.{Ref}
use Rattle.simulation.specs.loaded_program.AllMethods.{all_methods}
use Rattle.interleaving_core.proofs.InitialContents.InitialMachineState.{begun, target_of_run, thread_for_chosen}
use Rattle.interleaving_core.proofs.thread_starts.thread_start_on.Goals as goal

pub class_id-class-requires : goal.class_id-class-requires
class_id-class-requires c = ap is_some (begun c.args.program.now c.args.limits c.args.heap.now c.args.object c.requires.there).class_is

pub target-method-requires : goal.target-method-requires
target-method-requires c =
    let run = begun c.args.program.now c.args.limits c.args.heap.now c.args.object c.requires.there in
    ap is_some (target_of_run c.args.program.now c.args.heap.now c.args.object run c.class_id-class.result c.class_id-class.ensures c.number.result (c.number.ensures run.named run.named_is))

pub thread_start-requires-clause-there : goal.thread_start-requires-clause-there
thread_start-requires-clause-there c =
    let run = begun c.args.program.now c.args.limits c.args.heap.now c.args.object c.requires.there in
    ap is_some (c.target-method.ensures ∙ target_of_run c.args.program.now c.args.heap.now c.args.object run c.class_id-class.result c.class_id-class.ensures c.number.result (c.number.ensures run.named run.named_is))

pub returns-clause-begins : goal.returns-clause-begins
returns-clause-begins c =
    let tree = c.args.program.now in
    let legal : IsLegal tree = subst IsLegal c.program.ensures c.tree-legal.ensures.legal in
    let run = begun tree c.args.limits c.args.heap.now c.args.object c.requires.there in
    let there : slice_get (all_methods tree) c.target-method.result ≡ Some run.run =
    c.target-method.ensures ∙ target_of_run tree c.args.heap.now c.args.object run c.class_id-class.result c.class_id-class.ensures c.number.result (c.number.ensures run.named run.named_is) in
    thread_for_chosen tree legal c.args.limits c.args.heap.now c.args.object run.run c.target-method.result run.chosen_is there ∙ ap Some (sym (c.thread_start.ensures.begins run.run there (Ref c.args.object ∷ [])))

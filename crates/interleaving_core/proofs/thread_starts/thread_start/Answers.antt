use Rattle.std.proofs.Common.{◌≡◌, ◌≤◌, List, [], None, ap, ◌∙◌, subst, length, arith}
use Rattle.std.specs.Prelude.{slice_get}
use Rattle.cil_model.specs.Legality.{IsLegal}
use Rattle.cil_model.specs.declared.limits.TheConstants.{MOST_LOCALS}
use Rattle.cil_model.specs.declared.values.ValueKind.{ValueKind}
use Rattle.simulation.specs.loaded_program.AllMethods.{all_methods}
use Rattle.simulation.specs.loaded_program.LocalKinds.{local_kinds}
use Rattle.simulation.specs.loaded_program.LoadedPrograms.{IsLoadedMethod}
use Rattle.threads_monitors.specs.Frames.{new_frame}
use Rattle.threads_monitors.specs.declared.threads.ThreadStatus.TheVariants.{Live}
use Rattle.threads_monitors.specs.declared.threads.Thread.{Thread}
use Rattle.simulation.specs.MachineStates.{frame_room}
use Rattle.simulation.proofs.interpreter.MethodsToRun.{there_is}
use Rattle.interleaving_core.proofs.Threads.DeclaredMethods.{locals_fit}
use Rattle.interleaving_core.proofs.thread_starts.thread_start.Goals as goal

pub returns-clause-fits : goal.returns-clause-fits
returns-clause-fits c =
    let found = there_is (slice_get (all_methods c.args.program.now) c.args.method) c.requires.there in
    let known : IsLoadedMethod c.args.program.now found.0 c.method.result.now = c.method.ensures.loaded found.0 found.1 in
    let legal : IsLegal c.args.program.now = subst IsLegal c.program.ensures c.tree-legal.ensures.legal in
    let few : length (local_kinds found.0.1) ≤ MOST_LOCALS = locals_fit c.args.program.now legal c.method.result.now.member.class c.method.result.now.member.index found.0 known.member in
    let same : length c.as_slice.result.now ≡ length (local_kinds found.0.1) = ap length (c.as_slice.ensures.value ∙ known.locals) in
    omega (arith, few, same)

pub returns-clause-begins : goal.returns-clause-begins
returns-clause-begins c found at arguments =
    let known : IsLoadedMethod c.args.program.now found c.method.result.now = c.method.ensures.loaded found at in
    let with_locals : List ValueKind → Thread = λ kinds. record { thread_status = Live (record { running = new_frame c.args.method arguments kinds None; below = []; depth = c.args.limits.depth; room = frame_room }); steps_left = c.args.limits.budget } in
    ap with_locals (c.as_slice.ensures.value ∙ known.locals)

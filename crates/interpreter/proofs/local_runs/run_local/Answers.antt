use Rattle.std.proofs.Common.{◌≡◌, ◌⊎◌, ◌∙◌, true, false, Some, sym, ap, subst, add-one}
use Rattle.std.specs.Prelude.{IsSome}
use Rattle.threads_monitors.specs.Frames.{Frames, with_running}
use Rattle.threads_monitors.specs.declared.effects.Effect.TheVariants.{Continues}
use Rattle.interpreter.specs.Local.{AreLocalSteps, EndsLocal, is_local_link, local_link_transition}
use Rattle.instructions.specs.LocalTransitions.{IsFaulty}
use Rattle.interpreter.proofs.LocalKeeps.{local_keeps}
use Rattle.interpreter.proofs.LocalSteps.{ends_over, has_local_over, linked_at, step_over}
use Rattle.interpreter.proofs.local_runs.run_local.Goals as goal

pub do_local-requires : goal.do_local-requires
do_local-requires c local =
    let ready = c.requires.ready c.loop-count.count c.loop-count.frames.running c.loop-count-test.true c.loop-count.invariant.steps in
    subst (λ (m : Frames). IsSome (local_link_transition c.line_of.result.now m)) (sym c.loop-count.invariant.below)
    (has_local_over c.args.program.now c.args.frames.now.room c.loop-count.frames.running c.line_of.result.now (linked_at c.args.program.now c.loop-count.frames c.args.frames.now.room c.method.result c.pc.result c.code-code.result.now c.line_of.result.now ready (c.method.ensures ∙ sym c.loop-count.invariant.method) c.pc.ensures c.code-code.ensures c.line_of.ensures) ready c.args.frames.now.below c.args.frames.now.depth local)

pub returns-then-not-do_local-clause-ends : goal.returns-then-not-do_local-clause-ends
returns-then-not-do_local-clause-ends c less =
    let ready = c.requires.ready c.loop-count.count c.loop-count.frames.running c.loop-count-test.true c.loop-count.invariant.steps in
    let stays = c.do_local.ensures.stays c.if-not-do_local.true in
    let ends = ends_over c.args.program.now c.args.frames.now.room c.loop-count.frames.running c.line_of.result.now (linked_at c.args.program.now c.loop-count.frames c.args.frames.now.room c.method.result c.pc.result c.code-code.result.now c.line_of.result.now ready (c.method.ensures ∙ sym c.loop-count.invariant.method) c.pc.ensures c.code-code.ensures c.line_of.ensures) ready c.args.frames.now.below c.args.frames.now.depth in
    let here : EndsLocal c.args.program.now c.args.frames.now.room c.loop-count.frames.running =
    ends (subst (λ (m : Frames). (is_local_link c.line_of.result.now ≡ false) ⊎ ((is_local_link c.line_of.result.now ≡ true) × IsFaulty (local_link_transition c.line_of.result.now m))) c.loop-count.invariant.below stays.1) in
    subst (λ (m : Frames). EndsLocal c.args.program.now c.args.frames.now.room m.running) (sym stays.0) here

pub loop-count-preserved : goal.loop-count-preserved
loop-count-preserved c =
    let ready = c.requires.ready c.loop-count.count c.loop-count.frames.running c.loop-count-test.true c.loop-count.invariant.steps in
    let done = c.do_local.ensures.done c.if-not-do_local.false in
    let over : local_link_transition c.line_of.result.now (with_running c.args.frames.now c.loop-count.frames.running) ≡ Some (c.do_local.new.frames, Continues) =
    ap (local_link_transition c.line_of.result.now) (sym c.loop-count.invariant.below) ∙ done.1 in
    let keeps = local_keeps c.line_of.result.now c.loop-count.frames (c.do_local.new.frames, Continues) done.1 in
    record {
      below = keeps.frames ∙ ap (λ (m : Frames). with_running m c.do_local.new.frames.running) c.loop-count.invariant.below;
      method = keeps.method ∙ c.loop-count.invariant.method;
      steps = subst (λ n. AreLocalSteps c.args.program.now c.args.frames.now.room n c.args.frames.now.running c.do_local.new.frames.running) (sym (add-one c.loop-count.count))
          (c.loop-count.frames.running, c.loop-count.invariant.steps, step_over c.args.program.now c.args.frames.now.room c.loop-count.frames.running c.line_of.result.now (linked_at c.args.program.now c.loop-count.frames c.args.frames.now.room c.method.result c.pc.result c.code-code.result.now c.line_of.result.now ready (c.method.ensures ∙ sym c.loop-count.invariant.method) c.pc.ensures c.code-code.ensures c.line_of.ensures) ready c.args.frames.now.below c.args.frames.now.depth done.0 c.do_local.new.frames over);
    }

use Rattle.std.proofs.Common.{◌∙◌, ap, ap₂, sym}
use Rattle.std.proofs.lemmas.Result.{IfOk-weaker, on_err_weaker}
use Rattle.cil_model.specs.declared.phases.Phase.TheVariants.{Idle, Mark, Allocate, Copy, PreFlip, HeapFlip, ThreadFlip, Reclaim}
use Rattle.reference_machine.specs.Cycles.{phase_after}
use Rattle.interleaving_core.specs.Views.{machine_state_of}
use Rattle.interleaving_core.proofs.CollectorTransitions.CollectorEvents.{collects, initial_takes_memory, waits}
use Rattle.interleaving_core.proofs.engine.Engine.collect.Goals as goal

pub returns-then-not-all_seen-clause-transitions : goal.returns-then-not-all_seen-clause-transitions
returns-then-not-all_seen-clause-transitions c = sym (waits (machine_state_of c.args.self.now) (sym c.if-not-all_seen.ensures))

pub open_cycle-requires : goal.open_cycle-requires
open_cycle-requires c = record { limits = c.requires.limits; sound = c.requires.sound; posted_phase = sym c.in-Idle.ensures.posted_phase; seen = sym c.if-not-all_seen.ensures }

pub mark_on-requires : goal.mark_on-requires
mark_on-requires c = record { sound = c.requires.sound; posted_phase = sym c.in-Mark.ensures.posted_phase; seen = sym c.if-not-all_seen.ensures }

pub look_on-requires : goal.look_on-requires
look_on-requires c = record { sound = c.requires.sound; posted_phase = sym c.in-Allocate.ensures.posted_phase; seen = sym c.if-not-all_seen.ensures }

pub copy_on-requires : goal.copy_on-requires
copy_on-requires c = record { sound = c.requires.sound; posted_phase = sym c.in-Copy.ensures.posted_phase; seen = sym c.if-not-all_seen.ensures }

pub flip_on-requires : goal.flip_on-requires
flip_on-requires c = record { sound = c.requires.sound; few = c.requires.few; posted_phase = sym c.in-HeapFlip.ensures.posted_phase; seen = sym c.if-not-all_seen.ensures }

pub clear_on-requires : goal.clear_on-requires
clear_on-requires c = record { sound = c.requires.sound; posted_phase = sym c.in-Reclaim.ensures.posted_phase; seen = sym c.if-not-all_seen.ensures }

pub post-requires : goal.post-requires
post-requires c = record { next = ap phase_after c.in-PreFlip.ensures.posted_phase; seen = sym c.if-not-all_seen.ensures }

pub post-requires-in-ThreadFlip : goal.post-requires-in-ThreadFlip
post-requires-in-ThreadFlip c = record { next = ap phase_after c.in-ThreadFlip.ensures.posted_phase; seen = sym c.if-not-all_seen.ensures }

pub returns-in-Idle-clause-transitions : goal.returns-in-Idle-clause-transitions
returns-in-Idle-clause-transitions c =
    IfOk-weaker c.open_cycle.result _ _
    (λ report opened. ap₂ (λ after decoded. (after, decoded)) opened.0 opened.1 ∙ sym (collects (machine_state_of c.args.self.now) Idle (sym c.if-not-all_seen.ensures) (sym c.in-Idle.ensures.posted_phase)))
    c.open_cycle.ensures.opened

pub returns-in-Idle-clause-memory : goal.returns-in-Idle-clause-memory
returns-in-Idle-clause-memory c =
    on_err_weaker c.open_cycle.result (λ refused. initial_takes_memory (machine_state_of c.args.self.now) c.requires.sound (sym c.if-not-all_seen.ensures) (sym c.in-Idle.ensures.posted_phase)) c.open_cycle.ensures.refused

pub returns-in-Idle-clause-refused : goal.returns-in-Idle-clause-refused
returns-in-Idle-clause-refused c = c.open_cycle.ensures.refused

pub returns-in-Mark-clause-transitions : goal.returns-in-Mark-clause-transitions
returns-in-Mark-clause-transitions c = c.mark_on.ensures ∙ sym (collects (machine_state_of c.args.self.now) Mark (sym c.if-not-all_seen.ensures) (sym c.in-Mark.ensures.posted_phase))

pub returns-in-Allocate-clause-transitions : goal.returns-in-Allocate-clause-transitions
returns-in-Allocate-clause-transitions c = c.look_on.ensures ∙ sym (collects (machine_state_of c.args.self.now) Allocate (sym c.if-not-all_seen.ensures) (sym c.in-Allocate.ensures.posted_phase))

pub returns-in-Copy-clause-transitions : goal.returns-in-Copy-clause-transitions
returns-in-Copy-clause-transitions c = c.copy_on.ensures ∙ sym (collects (machine_state_of c.args.self.now) Copy (sym c.if-not-all_seen.ensures) (sym c.in-Copy.ensures.posted_phase))

pub returns-in-HeapFlip-clause-transitions : goal.returns-in-HeapFlip-clause-transitions
returns-in-HeapFlip-clause-transitions c = c.flip_on.ensures ∙ sym (collects (machine_state_of c.args.self.now) HeapFlip (sym c.if-not-all_seen.ensures) (sym c.in-HeapFlip.ensures.posted_phase))

pub returns-in-Reclaim-clause-transitions : goal.returns-in-Reclaim-clause-transitions
returns-in-Reclaim-clause-transitions c = c.clear_on.ensures ∙ sym (collects (machine_state_of c.args.self.now) Reclaim (sym c.if-not-all_seen.ensures) (sym c.in-Reclaim.ensures.posted_phase))

pub returns-in-PreFlip-clause-transitions : goal.returns-in-PreFlip-clause-transitions
returns-in-PreFlip-clause-transitions c =
    ap₂ (λ after decoded. (after, decoded)) c.post.ensures.after c.post.ensures.report ∙ sym (collects (machine_state_of c.args.self.now) PreFlip (sym c.if-not-all_seen.ensures) (sym c.in-PreFlip.ensures.posted_phase))

pub returns-in-ThreadFlip-clause-transitions : goal.returns-in-ThreadFlip-clause-transitions
returns-in-ThreadFlip-clause-transitions c =
    ap₂ (λ after decoded. (after, decoded)) c.post-in-ThreadFlip.ensures.after c.post-in-ThreadFlip.ensures.report ∙ sym (collects (machine_state_of c.args.self.now) ThreadFlip (sym c.if-not-all_seen.ensures) (sym c.in-ThreadFlip.ensures.posted_phase))

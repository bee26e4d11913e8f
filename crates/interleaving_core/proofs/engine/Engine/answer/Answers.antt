use Rattle.std.proofs.Common.{sym, ap, ◌∙◌}
use Rattle.std.specs.Prelude.{slice_set}
use Rattle.phase_handshake.specs.Handshakes.{Handshakes}
use Rattle.interleaving_core.specs.Views.{machine_state_of}
use Rattle.interleaving_core.proofs.Threads.IndexedThreads.{answered_is, reached_live, reached_with}
use Rattle.interleaving_core.proofs.engine.Engine.answer.Goals as goal

pub answer-report-requires-clause-live : goal.answer-report-requires-clause-live
answer-report-requires-clause-live c = reached_live c.args.self.now.threads.items c.args.number c.from.result c.from.ensures c.index_mut.result.now c.index_mut.ensures.value c.requires.live

pub answer-report-requires-clause-operand : goal.answer-report-requires-clause-operand
answer-report-requires-clause-operand c m e =
    c.requires.operand c.index_mut.result.now.steps_left m
    (reached_with c.args.self.now.threads.items c.args.number c.from.result c.from.ensures c.index_mut.result.now c.index_mut.ensures.value c.requires.live m e)

pub answer-report-requires-clause-following : goal.answer-report-requires-clause-following
answer-report-requires-clause-following c m e =
    c.requires.following c.index_mut.result.now.steps_left m
    (reached_with c.args.self.now.threads.items c.args.number c.from.result c.from.ensures c.index_mut.result.now c.index_mut.ensures.value c.requires.live m e)

pub returns : goal.returns
returns c left m there =
    answered_is (machine_state_of c.args.self.now) c.args.number c.from.result c.from.ensures c.index_mut.result.now c.index_mut.ensures.value left m there c.answer-report.new.thread c.answer-report.result c.args.effect c.answer-report.ensures
    ∙ ap (λ (h : Handshakes). (record (machine_state_of c.args.self.now) { threads = slice_set c.args.self.now.threads.items c.from.result c.answer-report.new.thread; posts = h }, c.answer-report.result)) (sym c.leave_if_ended.ensures)

use Rattle.std.proofs.Common.{sym, ap, ◌∙◌}
use Rattle.std.specs.Prelude.{slice_set}
use Rattle.phase_handshake.specs.Handshakes.{Handshakes}
use Rattle.interleaving_core.specs.Views.{machine_state_of}
use Rattle.interleaving_core.proofs.Threads.IndexedThreads.{counted_is}
use Rattle.interleaving_core.proofs.engine.Engine.charge_step.Goals as goal

pub returns : goal.returns
returns c left m there =
    counted_is (machine_state_of c.args.self.now) c.args.number c.from.result c.from.ensures c.index_mut.result.now c.index_mut.ensures.value left m there c.charge_step-report.new.self c.charge_step-report.result c.args.effect c.charge_step-report.ensures
    ∙ ap (λ (h : Handshakes). (record (machine_state_of c.args.self.now) { threads = slice_set c.args.self.now.threads.items c.from.result c.charge_step-report.new.self; posts = h }, c.charge_step-report.result)) (sym c.leave_if_ended.ensures)

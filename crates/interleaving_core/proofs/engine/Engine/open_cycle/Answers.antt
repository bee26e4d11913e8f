use Rattle.std.proofs.Common.{refl, sym, ap}
use Rattle.std.proofs.lemmas.Result.{IfOk-from_err}
use Rattle.reference_machine.specs.Cycles.{phase_after}
use Rattle.interleaving_core.proofs.Threads.RefusedMemory.{on_err}
use Rattle.interleaving_core.proofs.engine.Engine.open_cycle.Goals as goal

pub returns-in_err-memory-clause-opened : goal.returns-in_err-memory-clause-opened
returns-in_err-memory-clause-opened c = IfOk-from_err c.from_residual.result _ c.from_residual.ensures.0

pub returns-in_err-memory-clause-refused : goal.returns-in_err-memory-clause-refused
returns-in_err-memory-clause-refused c = on_err c.from_residual.result refl

pub post-requires-clause-next : goal.post-requires-clause-next
post-requires-clause-next c = sym (ap phase_after c.requires.posted_phase)

pub post-requires-clause-seen : goal.post-requires-clause-seen
post-requires-clause-seen c = c.requires.seen

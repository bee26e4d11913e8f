use Rattle.std.proofs.Common.{sym, subst}
use Rattle.simulation.specs.collector.Conditions.{AreValuesInHeap}
use Rattle.interleaving_core.specs.Views.{machine_state_of}
use Rattle.interleaving_core.proofs.CollectorTransitions.CollectorEvents.{statics_there}
use Rattle.interleaving_core.proofs.engine.Engine.flip_on.Goals as goal

pub flip_static_step-requires-clause-there : goal.flip_static_step-requires-clause-there
flip_static_step-requires-clause-there c = subst (AreValuesInHeap c.args.self.now.store.heap) (sym c.as_mut_slice.ensures.value) (statics_there (machine_state_of c.args.self.now) c.requires.sound)

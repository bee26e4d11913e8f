use Rattle.std.proofs.Common.{Bool, sym, ap, ◌∙◌, subst}
use Rattle.object_memory.specs.Objects.{Objects}
use Rattle.simulation.specs.collector.Conditions.{AreValuesInHeap}
use Rattle.simulation.specs.collector.declared.progress.Progress.{Progress}
use Rattle.interleaving_core.specs.Views.{machine_state_of}
use Rattle.interleaving_core.proofs.CollectorTransitions.CollectorEvents.{none_marked, statics_there}
use Rattle.interleaving_core.proofs.engine.Engine.mark_on.Goals as goal

pub scan_statics-requires-clause-there : goal.scan_statics-requires-clause-there
scan_statics-requires-clause-there c = subst (AreValuesInHeap c.args.self.now.store.heap) (sym c.as_slice.ensures.value) (statics_there (machine_state_of c.args.self.now) c.requires.sound)

pub returns : goal.returns
returns c =
    let p = c.mark_step.new.progress in
    let o = c.mark_step.new.heap in
    let step : Bool → Progress × Objects × Bool = λ b. (p, o, b) in
    let idle = ap step (sym c.if-mark_step.false) ∙ c.mark_step.ensures c.args.self.now.program c.layout.ensures in
    c.end_round.ensures ∙ none_marked (machine_state_of c.args.self.now) p o c.if-not-self.false idle

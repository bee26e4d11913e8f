use Rattle.interleaving_core.specs.Views.{machine_state_of}
use Rattle.simulation.specs.interpreter.declared.outcomes.InstructionOutcome.TheVariants.{Joins}
use Rattle.interleaving_core.proofs.Threads.Requests.{join_finished, of_live}
use Rattle.interleaving_core.proofs.engine.Engine.finish_join.Goals as goal

pub join-effect-requires : goal.join-effect-requires
join-effect-requires c = record { there = (of_live (machine_state_of c.args.self.now) c.args.number (Joins c.args.object) c.requires.live c.requires.can).1.slot }

pub answer-requires-clause-operand : goal.answer-requires-clause-operand
answer-requires-clause-operand c left m is = (c.requires.can left m is).operand

pub answer-requires-clause-following : goal.answer-requires-clause-following
answer-requires-clause-following c left m is = (c.requires.can left m is).following

pub returns : goal.returns
returns c left m there =
    join_finished (machine_state_of c.args.self.now) c.args.number left m c.args.object (machine_state_of c.answer.new.self, c.answer.result) c.join-effect.result c.deref.result.now c.join-effect.ensures c.deref.ensures.value
    (c.answer.ensures left m there)

use Rattle.phase_handshake.specs.Handshakes.{own_phase}
use Rattle.simulation.specs.Transitions.{live_thread}
use Rattle.interleaving_core.specs.Views.{machine_state_of}
use Rattle.simulation.specs.interpreter.declared.outcomes.InstructionOutcome.TheVariants.{Starts}
use Rattle.interleaving_core.proofs.Threads.HalfSteps.{started_keeps}
use Rattle.interleaving_core.proofs.Threads.Requests.{live_after, of_live, start_finished, started_back}
use Rattle.interleaving_core.proofs.engine.Engine.finish_start.Goals as goal

pub start-requires-clause-slot : goal.start-requires-clause-slot
start-requires-clause-slot c = (of_live (machine_state_of c.args.self.now) c.args.number (Starts c.args.object) c.requires.live c.requires.can).1.0.slot

pub start-requires-clause-there : goal.start-requires-clause-there
start-requires-clause-there c = (of_live (machine_state_of c.args.self.now) c.args.number (Starts c.args.object) c.requires.live c.requires.can).1.2

pub start-requires-clause-ready : goal.start-requires-clause-ready
start-requires-clause-ready c = (of_live (machine_state_of c.args.self.now) c.args.number (Starts c.args.object) c.requires.live c.requires.can).1.1

pub answer-requires-clause-live : goal.answer-requires-clause-live
answer-requires-clause-live c =
    live_after (own_phase c.args.self.now.posts c.args.number) c.args.self.now.program c.args.self.now.limits c.args.self.now.threads.items c.args.self.now.store.heap c.args.object c.args.number c.requires.live
    (c.start.new.self.threads.items, c.start.new.self.store.heap, c.in_ok-effect.effect) c.in_ok-effect.ensures.started

pub answer-requires-clause-operand : goal.answer-requires-clause-operand
answer-requires-clause-operand c left m is =
    (c.requires.can left m
    (started_back (own_phase c.args.self.now.posts c.args.number) c.args.self.now.program c.args.self.now.limits c.args.self.now.threads.items c.args.self.now.store.heap c.args.object c.args.number c.requires.live
    (c.start.new.self.threads.items, c.start.new.self.store.heap, c.in_ok-effect.effect) c.in_ok-effect.ensures.started (live_thread left m) is)).0.operand

pub answer-requires-clause-following : goal.answer-requires-clause-following
answer-requires-clause-following c left m is =
    (c.requires.can left m
    (started_back (own_phase c.args.self.now.posts c.args.number) c.args.self.now.program c.args.self.now.limits c.args.self.now.threads.items c.args.self.now.store.heap c.args.object c.args.number c.requires.live
    (c.start.new.self.threads.items, c.start.new.self.store.heap, c.in_ok-effect.effect) c.in_ok-effect.ensures.started (live_thread left m) is)).0.following

pub returns-clause-finished : goal.returns-clause-finished
returns-clause-finished c left m there =
    start_finished (machine_state_of c.args.self.now) c.args.number left m c.args.object (machine_state_of c.answer.new.self, c.answer.result) (c.start.new.self.threads.items, c.start.new.self.store.heap, c.in_ok-effect.effect)
    (machine_state_of c.start.new.self) c.in_ok-effect.ensures.started c.in_ok-effect.ensures.others
    (c.answer.ensures left m
    (started_keeps (own_phase c.args.self.now.posts c.args.number) c.args.self.now.program c.args.self.now.limits c.args.self.now.threads.items c.args.self.now.store.heap c.args.object c.args.number (live_thread left m)
    (c.start.new.self.threads.items, c.start.new.self.store.heap, c.in_ok-effect.effect) there c.in_ok-effect.ensures.started))

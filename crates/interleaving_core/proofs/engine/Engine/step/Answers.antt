use Rattle.interleaving_core.proofs.engine.Engine.step.Goals as goal

pub step_thread-requires-clause-ready : goal.step_thread-requires-clause-ready
step_thread-requires-clause-ready c = c.requires.ready

pub collect-requires-clause-limits : goal.collect-requires-clause-limits
collect-requires-clause-limits c = c.requires.ready.limits

pub collect-requires-clause-sound : goal.collect-requires-clause-sound
collect-requires-clause-sound c = c.requires.ready.machine_state

pub collect-requires-clause-few : goal.collect-requires-clause-few
collect-requires-clause-few c = c.requires.ready.statics

pub returns-in-Step-clause-transitions : goal.returns-in-Step-clause-transitions
returns-in-Step-clause-transitions c = rw c.in-Step.is c.step_thread.ensures.transitions

pub returns-in-Step-clause-memory : goal.returns-in-Step-clause-memory
returns-in-Step-clause-memory c = rw c.in-Step.is c.step_thread.ensures.memory

pub returns-in-Step-clause-refused : goal.returns-in-Step-clause-refused
returns-in-Step-clause-refused c = c.step_thread.ensures.refused

pub returns-in-Ack-clause-transitions : goal.returns-in-Ack-clause-transitions
returns-in-Ack-clause-transitions c = rw c.in-Ack.is c.acknowledge.ensures

pub returns-in-Gc-clause-transitions : goal.returns-in-Gc-clause-transitions
returns-in-Gc-clause-transitions c = rw c.in-Gc.is c.collect.ensures.transitions

pub returns-in-Gc-clause-memory : goal.returns-in-Gc-clause-memory
returns-in-Gc-clause-memory c = rw c.in-Gc.is c.collect.ensures.memory

pub returns-in-Gc-clause-refused : goal.returns-in-Gc-clause-refused
returns-in-Gc-clause-refused c = c.collect.ensures.refused

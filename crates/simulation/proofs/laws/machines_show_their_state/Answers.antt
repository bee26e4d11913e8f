use Rattle.simulation.proofs.Representation.VisibleState.{count_refines, ends_refine, live_refine, printed_refines, started_refine}
use Rattle.simulation.proofs.laws.machines_show_their_state.Goals as goal

pub returns-clause-printed : goal.returns-clause-printed
returns-clause-printed c = printed_refines

pub returns-clause-ends : goal.returns-clause-ends
returns-clause-ends c = ends_refine

pub returns-clause-live : goal.returns-clause-live
returns-clause-live c = live_refine

pub returns-clause-count : goal.returns-clause-count
returns-clause-count c = count_refines

pub returns-clause-started : goal.returns-clause-started
returns-clause-started c = started_refine

use Rattle.simulation.proofs.Runs.EventCorrespondence.{acknowledgement_keeps, collection_keeps}
use Rattle.simulation.proofs.laws.collector_events_keep_the_state.Goals as goal

pub returns : goal.returns
returns c = record { acknowledgements = acknowledgement_keeps; collections = collection_keeps }

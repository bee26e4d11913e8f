use Rattle.source_runs.proofs.laws.a_record_repeats_its_run.Goals as goal

pub returns : goal.returns
returns c = λ source limits text events reports s run is. record { are_read = c.written_text_is_read.ensures events text is; by_events = run }

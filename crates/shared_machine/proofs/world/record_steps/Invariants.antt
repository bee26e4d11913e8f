use Rattle.shared_machine.specs.Codes.{add_times}
use Rattle.shared_machine.proofs.world.record_steps.Given as goal

abbrev pub ghosts-note_times : goal.ghosts-note_times
ghosts-note_times g a = record { next = add_times a.times a.ticket.now.count a.entry.event a.entry.report }

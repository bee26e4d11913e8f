use Rattle.shared_machine.specs.Codes.{add}
use Rattle.shared_machine.proofs.world.perform.Given as goal

abbrev pub ghosts-note : goal.ghosts-note
ghosts-note g a = record { next = add a.ticket.now.count a.entry.event a.entry.report }

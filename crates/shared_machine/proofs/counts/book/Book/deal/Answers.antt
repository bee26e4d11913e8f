use Rattle.std.proofs.Common.{ap, sym, ◌∙◌, arith}
use Rattle.shared_machine.proofs.Moves.{deals}
use Rattle.shared_machine.proofs.counts.book.Book.deal.Goals as goal

pub split_seat-requires : goal.split_seat-requires
split_seat-requires g c =
    let i = c.self.invariant in
    (i.2 ∙ sym i.0, omega (arith, i.1), deals _ _ (ap (λ m. m.0.keeps) i.3))

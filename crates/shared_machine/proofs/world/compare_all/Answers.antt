use Rattle.std.proofs.Common.{ℕ, List, [], ◌∷◌, All, refl, sym, subst, ◌∙◌}
use Rattle.std.proofs.lemmas.List.Elements.{All-append, All-cons, All-nil}
use Rattle.shared_machine.specs.Worlds.{IsIn}
use Rattle.shared_machine.proofs.world.compare_all.Goals as goal

pub loop-ticket-init : goal.loop-ticket-init
loop-ticket-init g c = (refl, λ all. all)

pub loop-ticket-preserved : goal.loop-ticket-preserved
loop-ticket-preserved g c =
    let same = c.loop-ticket.invariant.0 in
    let here : IsIn c.args.book.now c.in-Some.ticket = subst (λ (book : List ℕ). IsIn book c.in-Some.ticket) same c.compare.ensures.agreed in (
      c.compare.ensures.same ∙ same,
      λ rest. c.loop-ticket.invariant.1
          (subst (All (IsIn c.args.book.now)) (sym c.in-Some.ensures.items)
          (All-append (IsIn c.args.book.now) c.pop.new.self.items (c.in-Some.ticket ∷ []) rest (All-cons (IsIn c.args.book.now) c.in-Some.ticket [] here (All-nil (IsIn c.args.book.now))))),
    )

pub returns-clause-same : goal.returns-clause-same
returns-clause-same g c = c.loop-ticket.invariant.0

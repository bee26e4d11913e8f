use Rattle.std.proofs.Common.{List, [], ◌∷◌, ◌++◌, ap, ◌∙◌}
use Rattle.shared_machine.specs.Counts.{Count}
use Rattle.api_tests.proofs.two_workers.both.Goals as goal

pub returns : goal.returns
returns g c =
    c.in_ok-push-2.ensures.items
    ∙ ap (λ (l : List Count). l ++ c.args.other ∷ []) (c.in_ok-push.ensures.items ∙ ap (λ (l : List Count). l ++ c.args.one ∷ []) c.new-tickets.ensures.items)

use Rattle.std.proofs.Common.{◌∷◌, ◌++◌, [], refl, ap, ◌∙◌}
use Rattle.shared_machine.specs.Histories.{Log, plain}
use Rattle.shared_machine.proofs.Histories.{plain-push}
use Rattle.shared_machine.proofs.history.History.add.Goals as goal

pub returns-then-not-lengthen : goal.returns-then-not-lengthen
returns-then-not-lengthen c =
    ap plain c.push_reserved.ensures.items
    ∙ plain-push c.lengthen.new.runs.items c.args.entry
    ∙ ap (λ v. plain v.items ++ c.args.entry ∷ []) (c.if-not-lengthen.ensures.same refl)
    ∙ ap (λ (l : Log). l.entries ++ c.args.entry ∷ []) c.self.view_is

use Rattle.std.proofs.Common.{◌++◌, refl, ap, ◌∙◌, replicate}
use Rattle.shared_machine.specs.Histories.{plain}
use Rattle.shared_machine.proofs.Histories.{plain-push_by}
use Rattle.shared_machine.proofs.history.add_last.Goals as goal

pub returns-then-not-lengthen_by : goal.returns-then-not-lengthen_by
returns-then-not-lengthen_by c =
    ap plain c.push_reserved.ensures.items
    ∙ plain-push_by c.lengthen_by.new.runs.items c.args.entry c.args.times
    ∙ ap (λ v. plain v.items ++ replicate c.args.times c.args.entry) (c.if-not-lengthen_by.ensures.same refl)

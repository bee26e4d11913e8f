use Rattle.class_layout.proofs.layout.Layout.assignable.Goals as goal

pub returns : goal.returns
returns c = λ tree is a b h k. c.is_assignable.ensures tree is.ancestry a b h k

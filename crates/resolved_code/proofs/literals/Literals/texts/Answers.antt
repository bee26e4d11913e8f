use Rattle.resolved_code.proofs.literals.Literals.texts.Goals as goal

pub loop-key-init : goal.loop-key-init
loop-key-init c = c.new-texts.ensures.items

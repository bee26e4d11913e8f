use Rattle.class_layout.proofs.SlotUseLaws.{interface_target_alike, class_target_alike}
use Rattle.std.proofs.Common.{ap, sym, ◌∙◌}
use Rattle.class_layout.specs.SlotUses.{listed_implementation, filled_along}
use Rattle.class_layout.proofs.targets.target_number.Goals as goal

pub returns-then-is_interface : goal.returns-then-is_interface
returns-then-is_interface c = λ k e d has_id there object_there.
    let methods = c.args.methods.now in
    let s = methods.classes.now in
    c.interface_implementation.ensures ∙ ap (λ ns. listed_implementation s.program.now s.all.now methods.identity ns c.args.class) c.chain-chain.ensures ∙
    interface_target_alike s.program.now k methods.identity has_id s.all.now c.requires s.legal c.args.class c.args.object e d there object_there (sym c.is_interface.ensures ∙ c.if-is_interface.true)

pub returns-else-is_interface : goal.returns-else-is_interface
returns-else-is_interface c = λ k e d has_id there object_there.
    let methods = c.args.methods.now in
    let s = methods.classes.now in
    c.class_implementation.ensures ∙ ap (λ ns. filled_along s.all.now methods.identity ns c.chain.result.now) c.chain-chain.ensures ∙ ap (filled_along s.all.now methods.identity _) c.chain.ensures ∙
    class_target_alike s.program.now k methods.identity has_id s.all.now c.requires s.legal c.args.class c.args.object e d there object_there (sym c.is_interface.ensures ∙ c.if-is_interface.false)

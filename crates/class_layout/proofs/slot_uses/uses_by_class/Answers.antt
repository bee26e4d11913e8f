use Rattle.std.proofs.Common.{map, ap, ◌∙◌}
use Rattle.std.proofs.Math.Seq.{take_all}
use Rattle.resolved_code.specs.declared.classes.ResolvedClass.{ResolvedClass}
use Rattle.class_layout.specs.SlotUses.{slot_use_in}
use Rattle.class_layout.proofs.Indices.{push_takes}
use Rattle.class_layout.proofs.slot_uses.uses_by_class.Goals as goal

pub loop-class-init : goal.loop-class-init
loop-class-init c = c.new-slot_uses.ensures.items

pub loop-class-preserved : goal.loop-class-preserved
loop-class-preserved c =
    push_takes (λ (r : ResolvedClass). slot_use_in c.args.identity r.methods) c.args.classes.now c.loop-class.class-index c.class-item.result c.loop-class.slot_uses.items c.push.new.self.items c.slot_use_in.result
    c.loop-class-test.true c.class-item.is c.loop-class.invariant (c.slot_use_in.ensures ∙ ap (slot_use_in c.args.identity) c.as_slice.ensures) c.in_ok-push.ensures.items

pub returns : goal.returns
returns c = c.loop-class.invariant ∙ ap (map (λ (r : ResolvedClass). slot_use_in c.args.identity r.methods)) (take_all c.loop-class.class-index c.args.classes.now c.loop-class-test.false)

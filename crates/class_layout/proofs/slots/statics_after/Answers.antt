use Rattle.std.proofs.Common.{◌<◌, length, arith}
use Rattle.class_layout.proofs.CountLaws.{static_fits}
use Rattle.class_layout.proofs.slots.statics_after.Goals as goal

pub number_after-next-requires : goal.number_after-next-requires
number_after-next-requires c =
    let fields = c.args.fields.now in
    let inside : c.loop-field.field-index < length fields = omega arith in
    static_fits (λ f. f.is_static) fields c.loop-field.field-index _ inside c.loop-field.next _ c.loop-field.invariant c.requires

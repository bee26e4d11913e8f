use Rattle.std.proofs.Common.{false, Option, length, refl, sym, ap}
use Rattle.std.proofs.lemmas.Option.{slice_get_past, slice_get_read}
use Rattle.std.specs.Option.{option_map_or}
use Rattle.resolved_code.specs.declared.classes.ResolvedClass.{ResolvedClass}
use Rattle.class_layout.proofs.targets.is_interface.Goals as goal

pub returns-in-None : goal.returns-in-None
returns-in-None c = rw (← c.number.ensures) (
    sym (ap (λ (o : Option ResolvedClass). option_map_or (λ r. r.is_interface) o false) (slice_get_past c.args.classes.now.all.now c.number.result c.in-None.ensures.lookup.3))
    )

pub returns-in-Some : goal.returns-in-Some
returns-in-Some c = rw (← c.number.ensures) (
    let all = c.args.classes.now.all.now in
    sym (ap (λ (o : Option ResolvedClass). option_map_or (λ r. r.is_interface) o false) (slice_get_read all (length all) c.number.result c.in-Some.resolved.now refl c.in-Some.ensures.lookup.3.0 c.in-Some.ensures.lookup.1))
    )

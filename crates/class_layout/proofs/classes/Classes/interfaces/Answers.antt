use Rattle.std.proofs.Common.{◌≡◌, [], ℕ, List, Option, Some, length, option_map, slice_get, unwrap_or, refl, sym, ap, ◌∙◌}
use Rattle.std.proofs.lemmas.Option.{slice_get-map, slice_get_past, slice_get_read}
use Rattle.resolved_code.specs.declared.classes.ResolvedClass.{ResolvedClass}
use Rattle.class_layout.proofs.classes.Classes.interfaces.Goals as goal

pub returns-in-None : goal.returns-in-None
returns-in-None c = rw (← c.number.ensures) (
    let all = c.args.self.now.all.now in
    sym (ap (λ (o : Option (List ℕ)). unwrap_or o []) (slice_get-map (λ (r : ResolvedClass). r.interfaces) all c.number.result ∙ ap (option_map (λ (r : ResolvedClass). r.interfaces)) (slice_get_past all c.number.result c.in-None.ensures.lookup.3)))
    )

pub returns-in-Some : goal.returns-in-Some
returns-in-Some c = rw (← c.number.ensures) (
    let all = c.args.self.now.all.now in
    let there : slice_get all c.number.result ≡ Some c.in-Some.resolved.now = slice_get_read all (length all) c.number.result c.in-Some.resolved.now refl c.in-Some.ensures.lookup.3.0 c.in-Some.ensures.lookup.1 in
    c.as_slice.ensures ∙ sym (ap (λ (o : Option (List ℕ)). unwrap_or o []) (slice_get-map (λ (r : ResolvedClass). r.interfaces) all c.number.result ∙ ap (option_map (λ (r : ResolvedClass). r.interfaces)) there))
    )

use Rattle.std.proofs.Common.{◌≡◌, ℕ, List, Option, None, Some, length, option_map, option_and_then, slice_get, refl, sym, ap, ◌∙◌}
use Rattle.std.proofs.lemmas.Option.{slice_get_past, slice_get_read}
use Rattle.name_tables.specs.declared.ids.MethodId.{MethodId}
use Rattle.resolved_code.specs.declared.classes.ResolvedClass.{ResolvedClass}
use Rattle.class_layout.specs.SlotUses.{own_index, own_at}
use Rattle.class_layout.proofs.method_families.MethodFamilies.own_method.Goals as goal

-- the method of a class, by its own index among the methods
abbrev by_index : ℕ → Option ℕ → Option MethodId
by_index class index = option_map (λ n. record { class = class; index = n }) index

own_of : (all : List ResolvedClass) (i class : ℕ) (r : ResolvedClass) (index : Option ℕ) → slice_get all class ≡ Some r → index ≡ own_index i r.methods → by_index class index ≡ own_at all i class
own_of all i class r index there is = ap (by_index class) is ∙ sym (ap (option_and_then (λ (s : ResolvedClass). by_index class (own_index i s.methods))) there)

pub returns-in-None : goal.returns-in-None
returns-in-None c = rw (← c.number.ensures) (
    let s = c.args.self.now in
    let all = s.classes.now.all.now in
    sym (ap (option_and_then (λ (r : ResolvedClass). by_index c.number.result (own_index s.identity r.methods))) (slice_get_past all c.number.result c.in-None.ensures.lookup.3))
    )

pub returns-in-None-own_index : goal.returns-in-None-own_index
returns-in-None-own_index c = rw (← c.number.ensures) (
    let s = c.args.self.now in
    let all = s.classes.now.all.now in
    own_of all s.identity c.number.result c.in-Some.resolved.now None (slice_get_read all (length all) c.number.result c.in-Some.resolved.now refl c.in-Some.ensures.lookup.3.0 c.in-Some.ensures.lookup.1) (c.in-None-own_index.ensures ∙ ap (own_index s.identity) c.as_slice.ensures)
    )

pub returns-in-Some-own_index : goal.returns-in-Some-own_index
returns-in-Some-own_index c = rw (← c.number.ensures) (
    let s = c.args.self.now in
    let all = s.classes.now.all.now in
    own_of all s.identity c.number.result c.in-Some.resolved.now (Some c.in-Some-own_index.index) (slice_get_read all (length all) c.number.result c.in-Some.resolved.now refl c.in-Some.ensures.lookup.3.0 c.in-Some.ensures.lookup.1)
    (c.in-Some-own_index.ensures ∙ ap (own_index s.identity) c.as_slice.ensures)
    )

use Rattle.std.proofs.Common.{◌≡◌, Option, None, Some, option_map, option_and_then, slice_get, unwrap_or, refl, ap, ◌∙◌}
use Rattle.std.proofs.lemmas.Option.{slice_get-map}
use Rattle.resolved_code.specs.declared.classes.ResolvedClass.{ResolvedClass}
use Rattle.class_layout.specs.SlotUses.{slot_use_in}
use Rattle.class_layout.proofs.method_families.MethodFamilies.slot_use.Goals as goal

pub returns : goal.returns
returns c =
    let s = c.args.self.now in
    let rs = s.classes.now.all.now in
    c.entry_at.ensures ∙ ap (λ items. unwrap_or (slice_get items c.args.class) None) (c.as_slice.ensures.value ∙ s.slot_uses_are) ∙
    ap (λ o. unwrap_or o None) (slice_get-map (λ (r : ResolvedClass). slot_use_in s.identity r.methods) rs c.args.class) ∙ by_class_of (slice_get rs c.args.class)
  where
    by_class_of : (o : Option ResolvedClass) → unwrap_or (option_map (λ (r : ResolvedClass). slot_use_in c.args.self.now.identity r.methods) o) None ≡ option_and_then (λ (r : ResolvedClass). slot_use_in c.args.self.now.identity r.methods) o
    by_class_of None = refl
    by_class_of (Some r) = refl

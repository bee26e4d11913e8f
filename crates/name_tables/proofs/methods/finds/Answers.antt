use Rattle.std.proofs.Common.{◌≡◌, Option, Some, None, is_some, option_map, refl, sym, ap, ◌∙◌}
use Rattle.inheritance.specs.declared.changes.Declared.{Declared}
use Rattle.name_tables.proofs.methods.finds.Goals as goal

is_some-map : {X Y : Type 0} (f : X → Y) (o : Option X) → is_some (option_map f o) ≡ is_some o
is_some-map f None = refl
is_some-map f (Some x) = refl

pub returns-in-Ok-clause-found : goal.returns-in-Ok-clause-found
returns-in-Ok-clause-found c = c.is_some.ensures ∙ sym (is_some-map (λ (d : Declared). (d.class, d.index)) c.in-Ok.found) ∙ ap is_some c.in-Ok.ensures.found

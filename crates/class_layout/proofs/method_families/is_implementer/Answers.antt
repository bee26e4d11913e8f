use Rattle.std.proofs.Common.{◌==◌, ℕ, List, ap, ◌∙◌}
use Rattle.std.specs.List.{list_any}
use Rattle.class_layout.proofs.method_families.is_implementer.Goals as goal

pub returns : goal.returns
returns c = c.contains.ensures.value ∙ ap (λ (ns : List ℕ). list_any (λ (m : ℕ). m == c.args.interface) ns) c.interfaces.ensures

use Rattle.std.proofs.Common.{List, slice_get, sym, ap, ◌∙◌}
use Rattle.resolved_code.specs.declared.classes.ResolvedField.{ResolvedField}
use Rattle.flow_rules.proofs.MemberLaws.{field_there, field_lacks}
use Rattle.flow_rules.proofs.members.field_type.Goals as goal

pub returns-in-None : goal.returns-in-None
returns-in-None c = λ b r is. field_lacks c.args.types.now b r c.args.id c.in-Some.class.now is c.in-Some.ensures.found (ap (λ (fs : List ResolvedField). slice_get fs c.args.id.index) (sym c.as_slice.ensures) ∙ c.item_at.ensures.beyond c.in-None.is)

pub returns-in-Some-item_at : goal.returns-in-Some-item_at
returns-in-Some-item_at c = λ b r is. field_there c.args.types.now b r c.args.id c.in-Some.class.now c.in-Some-item_at.field.now is c.in-Some.ensures.found (ap (λ (fs : List ResolvedField). slice_get fs c.args.id.index) (sym c.as_slice.ensures) ∙ c.in-Some-item_at.ensures.found)

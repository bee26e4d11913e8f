use Rattle.std.proofs.Common.{List, slice_get, sym, ap, ◌∙◌}
use Rattle.resolved_code.specs.declared.classes.ResolvedMethod.{ResolvedMethod}
use Rattle.flow_rules.proofs.MemberLaws.{method_there, method_lacks}
use Rattle.flow_rules.proofs.members.method_at.Goals as goal

pub returns-in-None-clause-absent : goal.returns-in-None-clause-absent
returns-in-None-clause-absent c = λ b r is. method_lacks c.args.types.now b r c.args.id c.in-Some.class.now is c.in-Some.ensures.found (ap (λ (fs : List ResolvedMethod). slice_get fs c.args.id.index) (sym c.as_slice.ensures) ∙ c.item_at.ensures.beyond c.in-None.is)

pub returns-in-Some-item_at-clause-found : goal.returns-in-Some-item_at-clause-found
returns-in-Some-item_at-clause-found c = λ b r is. method_there c.args.types.now b r c.args.id c.in-Some.class.now c.in-Some-item_at.method.now is c.in-Some.ensures.found (ap (λ (fs : List ResolvedMethod). slice_get fs c.args.id.index) (sym c.as_slice.ensures) ∙ c.in-Some-item_at.ensures.found)

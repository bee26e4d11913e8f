use Rattle.std.proofs.Common.{Some, map, ◌∙◌, sym, ap, arith}
use Rattle.std.specs.Prelude.{find}
use Rattle.std.proofs.lemmas.List.{drop_all, get_or_default}
use Rattle.resolved_code.specs.declared.classes.ResolvedClass.{ResolvedClass}
use Rattle.class_layout.specs.Targets.{is_implementer}
use Rattle.class_layout.proofs.Indices.{finds_here, finds_after}
use Rattle.class_layout.proofs.method_families.nearest_implementer.Goals as goal

pub returns-then-is_implementer : goal.returns-then-is_implementer
returns-then-is_implementer c = ap Some (c.class-item.is ∙ get_or_default c.args.chain.now c.loop-class.class-index c.class-item.result 0 c.loop-class-test.true) ∙ sym (finds_here (is_implementer (map (λ (r : ResolvedClass). r.interfaces) c.args.classes.now.all.now) c.args.interface) c.args.chain.now c.loop-class.class-index 0 (omega arith) (sym (ap (is_implementer (map (λ (r : ResolvedClass). r.interfaces) c.args.classes.now.all.now) c.args.interface) (c.class-item.is ∙ get_or_default c.args.chain.now c.loop-class.class-index c.class-item.result 0 c.loop-class-test.true)) ∙ sym c.is_implementer.ensures ∙ c.if-is_implementer.true)) ∙ c.loop-class.invariant

pub loop-class-preserved : goal.loop-class-preserved
loop-class-preserved c = finds_after (is_implementer (map (λ (r : ResolvedClass). r.interfaces) c.args.classes.now.all.now) c.args.interface) c.args.chain.now c.loop-class.class-index 0 (omega arith) (sym (ap (is_implementer (map (λ (r : ResolvedClass). r.interfaces) c.args.classes.now.all.now) c.args.interface) (c.class-item.is ∙ get_or_default c.args.chain.now c.loop-class.class-index c.class-item.result 0 c.loop-class-test.true)) ∙ sym c.is_implementer.ensures ∙ c.if-is_implementer.false) ∙ c.loop-class.invariant

pub returns : goal.returns
returns c = sym (ap (find (is_implementer (map (λ (r : ResolvedClass). r.interfaces) c.args.classes.now.all.now) c.args.interface)) (drop_all c.loop-class.class-index c.args.chain.now c.loop-class-test.false)) ∙ c.loop-class.invariant

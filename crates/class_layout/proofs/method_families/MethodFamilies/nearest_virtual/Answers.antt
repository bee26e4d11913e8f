use Rattle.std.proofs.Common.{Some, ◌∙◌, sym, ap, arith}
use Rattle.std.specs.Prelude.{find}
use Rattle.std.proofs.lemmas.List.{drop_all, get_or_default}
use Rattle.class_layout.specs.SlotUses.{is_virtual_at}
use Rattle.class_layout.proofs.Indices.{finds_here, finds_after}
use Rattle.class_layout.proofs.method_families.MethodFamilies.nearest_virtual.Goals as goal

pub returns-then-has_virtual : goal.returns-then-has_virtual
returns-then-has_virtual c = ap Some (c.class-item.is ∙ get_or_default c.args.chain.now c.loop-class.class-index c.class-item.result 0 c.loop-class-test.true) ∙ sym (finds_here (is_virtual_at c.args.self.now.classes.now.all.now c.args.self.now.identity) c.args.chain.now c.loop-class.class-index 0 (omega arith) (sym (ap (is_virtual_at c.args.self.now.classes.now.all.now c.args.self.now.identity) (c.class-item.is ∙ get_or_default c.args.chain.now c.loop-class.class-index c.class-item.result 0 c.loop-class-test.true)) ∙ sym c.has_virtual.ensures ∙ c.if-has_virtual.true)) ∙ c.loop-class.invariant

pub loop-class-preserved : goal.loop-class-preserved
loop-class-preserved c = finds_after (is_virtual_at c.args.self.now.classes.now.all.now c.args.self.now.identity) c.args.chain.now c.loop-class.class-index 0 (omega arith) (sym (ap (is_virtual_at c.args.self.now.classes.now.all.now c.args.self.now.identity) (c.class-item.is ∙ get_or_default c.args.chain.now c.loop-class.class-index c.class-item.result 0 c.loop-class-test.true)) ∙ sym c.has_virtual.ensures ∙ c.if-has_virtual.false) ∙ c.loop-class.invariant

pub returns : goal.returns
returns c = sym (ap (find (is_virtual_at c.args.self.now.classes.now.all.now c.args.self.now.identity)) (drop_all c.loop-class.class-index c.args.chain.now c.loop-class-test.false)) ∙ c.loop-class.invariant

use Rattle.std.proofs.Common.{subst}
use Rattle.resolved_code.specs.declared.types.ResolvedElement.{ResolvedElement}
use Rattle.resolved_code.specs.declared.types.ResolvedElement.TheVariants.{Class}
use Rattle.flow_rules.specs.Merging.{IsUp}
use Rattle.flow_rules.proofs.lines.Lines.is_up.Goals as goal

pub returns-in-Some : goal.returns-in-Some
returns-in-Some c = λ e. subst (λ (x : ResolvedElement). IsUp c.args.self.now.tree.now (Class c.args.class) c.args.index x) (c.is_same_element.ensures e) c.in-Some.ensures

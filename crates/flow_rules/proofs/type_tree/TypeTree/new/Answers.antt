use Rattle.std.proofs.Common.{map, sym, subst}
use Rattle.cil_model.specs.declared.trees.Tree.{Tree}
use Rattle.flow_rules.specs.Merging.{AreClasses, AreLines}
use Rattle.flow_rules.proofs.type_tree.TypeTree.new.Goals as goal

pub invariant_of-without_lines : goal.invariant_of-without_lines
invariant_of-without_lines c = subst (λ (tree : Tree). AreClasses tree c.args.classes.now) (sym c.none.ensures) c.requires

pub of-requires : goal.of-requires
of-requires c = subst (λ (tree : Tree). AreLines tree (map (λ row. row.items) c.in_ok-rows.rows.items)) c.none.ensures c.in_ok-rows.ensures

pub invariant_of-result : goal.invariant_of-result
invariant_of-result c = subst (λ (tree : Tree). AreClasses tree c.args.classes.now) (sym c.of.ensures) c.requires

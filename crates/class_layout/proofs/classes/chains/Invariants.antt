use Rattle.std.proofs.Common.{◌≡◌, map, take}
use Rattle.cil_model.specs.declared.trees.Tree.{Tree}
use Rattle.cil_model.specs.Chains.{longest_chain}
use Rattle.cil_model.specs.Legality.{IsLegal}
use Rattle.name_tables.specs.Numbers.{chain_numbers, declarations}
use Rattle.resolved_code.specs.ResolvedPrograms.{AreResolved}
use Rattle.class_layout.proofs.classes.chains.Given as goal

abbrev pub invariant-loop-class : goal.invariant-loop-class
invariant-loop-class l = (tree : Tree) → IsLegal tree → AreResolved tree l.classes → l.longest ≡ longest_chain tree → map (λ chain. chain.items) l.chains.items ≡ map (λ e. chain_numbers tree e.0) (take l.class (declarations tree))

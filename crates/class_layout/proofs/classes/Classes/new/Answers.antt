use Rattle.std.proofs.Common.{sym, ap, ◌∙◌}
use Rattle.cil_model.specs.Chains.{longest_chain}
use Rattle.name_tables.specs.Numbers.{declarations}
use Rattle.resolved_code.proofs.ListLaws.RelatedLists.{alike_length}
use Rattle.class_layout.proofs.ResolvedLaws.{IsClass, listed_alike}
use Rattle.class_layout.proofs.classes.Classes.new.Goals as goal

pub invariant_of-result : goal.invariant_of-result
invariant_of-result c =
    let t = c.args.program.now in
    record {
      legal = c.tree.ensures.legal;
      counted = sym (alike_length (IsClass t) (declarations t) c.classes-all.result.now c.classes-all.ensures);
      listed_are = listed_alike t c.tree.ensures.legal c.classes-all.result.now c.classes-all.ensures;
      chains_are = c.in_ok-chains.ensures t c.tree.ensures.legal c.classes-all.ensures (c.longest_chain-longest.ensures ∙ ap longest_chain c.tree.ensures.whole);
    }

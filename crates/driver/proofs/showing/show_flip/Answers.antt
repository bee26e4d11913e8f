use Rattle.std.proofs.Common.{[], ◌++◌, ◌∷◌, ◌∙◌, ap, codes, decimal, subst}
use Rattle.driver.proofs.Names.{on_err_weaker, Fails}
use Rattle.driver.proofs.ThreadLemmas.{five_texts}
use Rattle.driver.proofs.showing.show_flip.Goals as goal

pub returns-clause-cut : goal.returns-clause-cut
returns-clause-cut g c =
    let between = 10 ∷ codes "retired " in
    let kept = ap (λ n. codes "kept " ++ (n ++ (between ++ (c.format-2.result.now ++ 10 ∷ [])))) c.format.ensures.text in
    let retired = ap (λ n. codes "kept " ++ (decimal c.args.outcome.kept ++ (between ++ (n ++ 10 ∷ [])))) c.format-2.ensures.text in
    let lines = kept ∙ retired ∙ five_texts (codes "kept ") (decimal c.args.outcome.kept) between (decimal c.args.outcome.retired) (10 ∷ []) in
    on_err_weaker c.write_texts.result (λ cut. subst (Fails (g.W.Out.taken c.args.out.now) (g.W.Out.taken c.write_texts.new.self)) lines cut) c.write_texts.ensures.cut

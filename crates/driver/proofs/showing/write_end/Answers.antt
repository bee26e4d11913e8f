use Rattle.std.proofs.Common.{[], ◌++◌, ◌∷◌, ◌∙◌, ap, codes, decimal, subst}
use Rattle.driver.proofs.Names.{on_err_weaker, Fails, end_text}
use Rattle.driver.proofs.ThreadLemmas.{five_texts}
use Rattle.driver.proofs.showing.write_end.Goals as goal

pub returns-clause-cut : goal.returns-clause-cut
returns-clause-cut g c =
    let number = ap (λ n. codes "thread " ++ (n ++ (codes ": " ++ (c.end_text.result.now ++ 10 ∷ [])))) c.format.ensures.text in
    let end = ap (λ e. codes "thread " ++ (decimal c.args.thread ++ (codes ": " ++ (e ++ 10 ∷ [])))) c.end_text.ensures in
    let line = number ∙ end ∙ five_texts (codes "thread ") (decimal c.args.thread) (codes ": ") (end_text c.args.end) (10 ∷ []) in
    on_err_weaker c.write_texts.result (λ cut. subst (Fails (g.E.Out.taken c.args.err.now) (g.E.Out.taken c.write_texts.new.self)) line cut) c.write_texts.ensures.cut

use Rattle.std.proofs.Common.{◌≡◌, ◌++◌, ◌∷◌, List, ℕ, [], ◌∙◌, ap, arith, replicate}
use Rattle.std.proofs.lemmas.List.{replicate_more}
use Rattle.run_picture.specs.declared.rows.TheConstants.{ROWS}
use Rattle.run_picture.proofs.rows.Rows.new.Goals as goal

pub loop-row-preserved : goal.loop-row-preserved
loop-row-preserved c =
    c.in_ok-push.ensures.items ∙ ap (λ (row : List ℕ). c.loop-row.rows.items ++ row ∷ []) c.new.ensures ∙ ap (λ (rows : List (List ℕ)). rows ++ [] ∷ []) c.loop-row.invariant ∙ replicate_more c.loop-row._row []

pub returns : goal.returns
returns c =
    let all : c.loop-row._row ≡ ROWS = omega (arith, c.loop-row-test.false, c.loop-row.auto._row-end) in
    c.loop-row.invariant ∙ ap (λ (n : ℕ). replicate n []) all

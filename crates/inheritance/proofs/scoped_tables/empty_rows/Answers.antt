use Rattle.std.proofs.Common.{◌++◌, ◌∷◌, [], ℕ, List, replicate, refl, ap, ◌∙◌, arith}
use Rattle.std.proofs.lemmas.List.{map-append, replicate_more}
use Rattle.inheritance.specs.declared.changes.Change.{Change}
use Rattle.inheritance.proofs.scoped_tables.empty_rows.Goals as goal

pub loop-init : goal.loop-init
loop-init c = rw c.new-rows.ensures.items refl

pub loop-preserved : goal.loop-preserved
loop-preserved c =
    let rows = c.loop.rows.items in
    let n = c.loop.counter in
    rw (c.in_ok-push.ensures.items)
    (map-append (λ v. v.items) rows (c.new.result ∷ []) ∙ ap (λ (before : List (List Change)). before ++ c.new.result.items ∷ []) c.loop.invariant ∙ ap (λ (row : List Change). replicate n [] ++ row ∷ []) c.new.ensures.items ∙ replicate_more n [])

pub returns : goal.returns
returns c = c.loop.invariant ∙ ap (λ (n : ℕ). replicate n []) (omega (arith, c.loop.auto, c.loop-test.false))

use Rattle.std.proofs.Common.{◌∙◌, [], arith, subst}
use Rattle.std.proofs.lemmas.List.{get_or_default}
use Rattle.run_picture.specs.Paths.{Draws}
use Rattle.run_picture.proofs.PathLaws.{paths_more}
use Rattle.run_picture.proofs.plots.rows.Goals as goal

pub loop-number-preserved : goal.loop-number-preserved
loop-number-preserved c =
    let rows = c.args.rows.now.rows.items in
    let n = c.loop-number.number in
    let row = c.index.result.now in
    paths_more c.loop-number.content c.add_row.new.content rows n c.loop-number.invariant
    (subst (λ numbers. Draws c.loop-number.content c.add_row.new.content numbers) (c.index.ensures ∙ get_or_default rows n row [] (omega (arith, c.args.rows.now.all))) c.add_row.ensures)

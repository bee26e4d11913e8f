use Rattle.std.proofs.Common.{◌∙◌, ap, decimal, subst}
use Rattle.std.proofs.lemmas.Result.{on_err_weaker, on_ok_weaker}
use Rattle.outputs.specs.Streams.{Fails, Takes}
use Rattle.run_statistics.proofs.LineLemmas.{total_pieces}
use Rattle.run_statistics.proofs.lines.write_totals.Goals as goal

pub returns-clause-whole : goal.returns-clause-whole
returns-clause-whole g c =
    let line = c.most_line.result in
    let text = total_pieces line.0.now line.1.now line.2.now (c.format-event_text.ensures.text ∙ ap decimal c.count.ensures) (c.format-cycle_text.ensures.text ∙ ap decimal c.count-2.ensures)
    c.format-word_text.ensures.text c.format-heap_text.ensures.text c.most_line.ensures (c.format-refused_text.ensures.text ∙ ap decimal c.count-3.ensures) in
    on_ok_weaker c.write_texts.result (λ shown. subst (Takes (g.E.Out.taken c.args.err.now) (g.E.Out.taken c.write_texts.new.self)) text shown) c.write_texts.ensures.whole

pub returns-clause-cut : goal.returns-clause-cut
returns-clause-cut g c =
    let line = c.most_line.result in
    let text = total_pieces line.0.now line.1.now line.2.now (c.format-event_text.ensures.text ∙ ap decimal c.count.ensures) (c.format-cycle_text.ensures.text ∙ ap decimal c.count-2.ensures)
    c.format-word_text.ensures.text c.format-heap_text.ensures.text c.most_line.ensures (c.format-refused_text.ensures.text ∙ ap decimal c.count-3.ensures) in
    on_err_weaker c.write_texts.result (λ cut. subst (Fails (g.E.Out.taken c.args.err.now) (g.E.Out.taken c.write_texts.new.self)) text cut) c.write_texts.ensures.cut

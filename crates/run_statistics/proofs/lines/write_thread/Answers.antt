use Rattle.std.proofs.Common.{◌∙◌, ap, decimal, subst}
use Rattle.std.proofs.lemmas.Result.{on_err_weaker, on_ok_weaker}
use Rattle.outputs.specs.Streams.{Fails, Takes}
use Rattle.run_statistics.proofs.LineLemmas.{thread_pieces}
use Rattle.run_statistics.proofs.lines.write_thread.Goals as goal

pub returns-clause-whole : goal.returns-clause-whole
returns-clause-whole g c =
    let text = thread_pieces c.format-number.ensures.text (c.format-made_text.ensures.text ∙ ap decimal c.count-made.ensures)
    (c.format-blocked_text.ensures.text ∙ ap decimal c.count-blocked.ensures) in
    on_ok_weaker c.write_texts.result (λ shown. subst (Takes (g.E.Out.taken c.args.err.now) (g.E.Out.taken c.write_texts.new.self)) text shown) c.write_texts.ensures.whole

pub returns-clause-cut : goal.returns-clause-cut
returns-clause-cut g c =
    let text = thread_pieces c.format-number.ensures.text (c.format-made_text.ensures.text ∙ ap decimal c.count-made.ensures)
    (c.format-blocked_text.ensures.text ∙ ap decimal c.count-blocked.ensures) in
    on_err_weaker c.write_texts.result (λ cut. subst (Fails (g.E.Out.taken c.args.err.now) (g.E.Out.taken c.write_texts.new.self)) text cut) c.write_texts.ensures.cut

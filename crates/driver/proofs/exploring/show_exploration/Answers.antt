use Rattle.std.proofs.Common.{ap, inl, inr, refl, subst, sym, ◌∙◌}
use Rattle.std.specs.Prelude.{string_bytes}
use Rattle.driver.proofs.Names.{handed_on, Fails, Takes, AreSaved, status_of_exploration, HasNotExplored, output_state, texts_of}
use Rattle.driver.proofs.ExplorationLemmas.{not_explored, not_pictured}
use Rattle.driver.proofs.OutcomeLemmas.{no_device, nothing_written, write_failed}
use Rattle.driver.proofs.Refusals.{not_run}
use Rattle.driver.proofs.exploring.show_exploration.Goals as goal

-- nothing is printed
pub returns-in_err-exploration-clause-given_up : goal.returns-in_err-exploration-clause-given_up
returns-in_err-exploration-clause-given_up g c =
    let at = output_state g.W.Out.taken g.E.Out.taken in
    handed_on c.from_residual.result c.from_residual.ensures.1 (λ failure same.
    nothing_written (at c.args.outputs.now) (at c.args.outputs.now) failure (subst (HasNotExplored c.args.source.now c.args.limits) (sym same) (inl c.in_err-exploration.ensures.refused))
    (λ device. not_run c.args.source.now c.args.limits _ c.in_err-exploration.ensures.refused (sym same ∙ device)) (refl, refl) refl)

pub returns-in_err-text-clause-given_up : goal.returns-in_err-text-clause-given_up
returns-in_err-text-clause-given_up g c =
    let at = output_state g.W.Out.taken g.E.Out.taken in
    handed_on c.from_residual-in_err-text.result c.from_residual-in_err-text.ensures.1 (λ failure same.
    nothing_written (at c.args.outputs.now) (at c.args.outputs.now) failure
    (subst (HasNotExplored c.args.source.now c.args.limits) (sym same) (not_explored c.args.source.now c.args.limits _ c.in_ok-exploration.ensures.accepted c.in_err-text.ensures.failed))
    (λ device. not_pictured c.args.source.now c.args.limits _ c.in_err-text.ensures.failed (sym same ∙ device)) (refl, refl) refl)

pub returns-in_err-saved-clause-given_up : goal.returns-in_err-saved-clause-given_up
returns-in_err-saved-clause-given_up g c =
    let at = output_state g.W.Out.taken g.E.Out.taken in
    handed_on c.from_residual-in_err-saved.result c.from_residual-in_err-saved.ensures.1 (λ failure memory.
    nothing_written (at c.args.outputs.now) (at c.args.outputs.now) failure (inr (c.in_ok-exploration.ensures.accepted, inl memory)) (no_device failure memory) (refl, refl) refl)

-- a write failed, or all is written
pub returns-in_err-write_whole-clause-given_up : goal.returns-in_err-write_whole-clause-given_up
returns-in_err-write_whole-clause-given_up g c =
    let at = output_state g.W.Out.taken g.E.Out.taken in
    let o = at c.args.outputs.now in
    let o' = record o { out = g.W.Out.taken c.write_whole.new.self } in
    let cut = c.in_err-write_whole.ensures.cut in
    handed_on c.from_residual-in_err-write_whole.result c.from_residual-in_err-write_whole.ensures.1 (λ failure is.
    write_failed o o' failure (inr (c.in_ok-exploration.ensures.accepted, inr is)) (inr is) (inl cut.1)
    (record {
      exploration = c.in_ok-exploration.exploration;
      explored = record { real = c.in_ok-exploration.ensures.real; complete = c.in_ok-exploration.ensures.complete };
      text = string_bytes c.in_ok-text.text;
      is_text = c.in_ok-text.ensures.text;
      cut = subst (Fails o.out o'.out) c.as_bytes.ensures.value cut;
      silent = refl;
    }) refl)

pub returns-clause-done : goal.returns-clause-done
returns-clause-done g c =
    record {
      exploration = c.in_ok-exploration.exploration;
      explored = record { real = c.in_ok-exploration.ensures.real; complete = c.in_ok-exploration.ensures.complete };
      text = string_bytes c.in_ok-text.text;
      is_text = c.in_ok-text.ensures.text;
      shown = subst (Takes (g.W.Out.taken c.args.outputs.now.out) (g.W.Out.taken c.write_whole.new.self)) c.as_bytes.ensures.value c.in_ok-write_whole.ensures.whole;
      silent = refl;
      texts = texts_of c.in_ok-saved.saved;
      are_saved = subst (λ found. AreSaved c.args.is_saved c.args.source.now c.args.limits found (texts_of c.in_ok-saved.saved)) c.deref.ensures.value c.in_ok-saved.ensures;
      left = c.replace_files.ensures;
      status_is = c.status_of.ensures ∙ ap (status_of_exploration c.in_ok-exploration.exploration.is_complete) c.deref-2.ensures.value;
    }

use Rattle.std.proofs.Common.{◌∙◌, [], append-nil, refl, subst, sym}
use Rattle.std.specs.Io.KnownBytes.{Appends}
use Rattle.cil_model.specs.declared.trees.Tree.{Tree}
use Rattle.schedule_text.specs.Items.{events_of}
use Rattle.event_trace.proofs.interleaving_core.Threads.RefusedMemory.{on_err}
use Rattle.outputs.specs.Beginnings.{AppendsBeginning}
use Rattle.event_trace.specs.MethodPositions.{ArePositionsOf}
use Rattle.run_picture.specs.Pictures.{AreSketched}
use Rattle.run_picture.specs.Windows.{clamp}
use Rattle.run_picture.specs.declared.windows.Window.{Window}
use Rattle.run_picture.proofs.PictureLaws.{all_drawn, stopped_before, write_cut}
use Rattle.run_picture.proofs.picturing.picture.Goals as goal

pub perform_all-requires-clause-positions : goal.perform_all-requires-clause-positions
perform_all-requires-clause-positions g c = subst (λ (t : Tree). ArePositionsOf t c.in_ok-methods.methods) c.tree.ensures c.in_ok-methods.ensures

pub perform_all-requires-clause-empty : goal.perform_all-requires-clause-empty
perform_all-requires-clause-empty g c = c.in_ok-sketch.ensures.1

pub returns-in_err-number-clause-stopped : goal.returns-in_err-number-clause-stopped
returns-in_err-number-clause-stopped g c = on_err c.from_residual-in_err-number.result (c.in_err-number.ensures.stopped c.args.window (g.W.Out.taken c.args.out.now).contents)

pub returns-in_err-document-clause-stopped : goal.returns-in_err-document-clause-stopped
returns-in_err-document-clause-stopped g c =
    let events = events_of c.args.items.now in
    let machine = c.perform_all.new.machine in
    let rows = c.perform_all.new.self.rows.rows.items in
    on_err c.from_residual-in_err-document.result
    (stopped_before c.args.machine.now machine machine events events [] (clamp c.args.window) c.args.window rows (g.W.Out.taken c.args.out.now).contents (sym (append-nil events))
    (subst (λ (w : Window). AreSketched c.args.machine.now events machine w rows) (c.in_ok-sketch.ensures.0 ∙ c.clamp.ensures) c.in_ok-number.ensures.sketched) refl)

pub returns-in_err-write_whole-clause-stopped : goal.returns-in_err-write_whole-clause-stopped
returns-in_err-write_whole-clause-stopped g c =
    let events = events_of c.args.items.now in
    let machine = c.perform_all.new.machine in
    let rows = c.perform_all.new.self.rows.rows.items in
    let before = (g.W.Out.taken c.args.out.now).contents in
    let after = (g.W.Out.taken c.write_whole.new.self).contents in
    on_err c.from_residual-in_err-write_whole.result
    (write_cut c.args.machine.now machine events c.args.window rows _
    (subst (λ (w : Window). AreSketched c.args.machine.now events machine w rows) (c.in_ok-sketch.ensures.0 ∙ c.clamp.ensures) c.in_ok-number.ensures.sketched)
    c.in_ok-document.ensures.0 c.in_ok-document.ensures.1 c.in_ok-document.ensures.2 before after (subst (λ bytes. AppendsBeginning before after bytes) (c.as_bytes.ensures.value ∙ c.as_str.ensures.value) c.in_err-write_whole.ensures.cut.0))

pub returns-clause-drawn : goal.returns-clause-drawn
returns-clause-drawn g c =
    let events = events_of c.args.items.now in
    let machine = c.perform_all.new.machine in
    let rows = c.perform_all.new.self.rows.rows.items in
    let before = (g.W.Out.taken c.args.out.now).contents in
    let after = (g.W.Out.taken c.write_whole.new.self).contents in
    all_drawn c.args.machine.now machine events c.args.window rows _
    (subst (λ (w : Window). AreSketched c.args.machine.now events machine w rows) (c.in_ok-sketch.ensures.0 ∙ c.clamp.ensures) c.in_ok-number.ensures.sketched)
    c.in_ok-document.ensures.0 c.in_ok-document.ensures.1 c.in_ok-document.ensures.2 before after (subst (λ bytes. Appends before after bytes) (c.as_bytes.ensures.value ∙ c.as_str.ensures.value) c.in_ok-write_whole.ensures.whole.0)

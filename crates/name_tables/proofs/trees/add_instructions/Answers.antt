use Rattle.std.proofs.Common.{◌++◌, ◌∷◌, [], append_assoc, arith, sym, ap, ◌∙◌, map, take}
use Rattle.std.proofs.lemmas.List.{map-append, append-nil}
use Rattle.cil_model.specs.declared.trees.Line.{Line}
use Rattle.name_tables.proofs.Lists.{map-take_more, at_end}
use Rattle.name_tables.proofs.trees.add_instructions.Goals as goal

pub loop-line-preserved : goal.loop-line-preserved
loop-line-preserved c =
    let own = map (λ i. i.now) c.args.instructions.now.items in
    let lines = c.lines_of-line-items.result.now in
    let before = map (λ (x : Line). x.instruction) (take c.loop-line.line-index lines) in
    let one = c.line-item.result.instruction ∷ [] in
    ap (map (λ i. i.now)) c.in_ok-push.ensures.items ∙ map-append (λ i. i.now) c.loop-line.instructions.items _ ∙ ap (λ z. z ++ one) c.loop-line.invariant ∙ append_assoc own before one ∙
    ap (λ z. own ++ z) (sym (map-take_more (λ (x : Line). x.instruction) lines c.loop-line.line-index c.line-item.result (omega arith) c.line-item.is))

pub returns : goal.returns
returns c =
    at_end (λ lines. map (λ i. i.now) c.args.instructions.now.items ++ map (λ (x : Line). x.instruction) lines) c.lines_of-line-items.result.now c.loop-line.line-index c.loop-line-test.false c.loop-line.invariant ∙
    ap (λ lines. map (λ i. i.now) c.args.instructions.now.items ++ map (λ (x : Line). x.instruction) lines) c.lines_of-line-items.ensures

pub loop-line-init : goal.loop-line-init
loop-line-init c = sym (append-nil (map (λ i. i.now) c.args.instructions.now.items))

use Rattle.std.proofs.Common.{◌≡◌, ◌++◌, ◌∷◌, [], map, take, sym, ap, ◌∙◌, arith}
use Rattle.std.proofs.lemmas.List.{append-nil}
use Rattle.std.specs.List.{filter_map, cons_option}
use Rattle.cil_model.specs.Same.{same_text}
use Rattle.cil_model.specs.Mentions.{literal_of, each_once}
use Rattle.name_tables.specs.Keys.{text_of_key}
use Rattle.resolved_code.proofs.InstructionOperations.InstructionsWithoutNames.{no_literal}
use Rattle.resolved_code.proofs.Numbers.Literals.{literal_met, literals_more}
use Rattle.std.proofs.Math.Seq.{take_all}
use Rattle.resolved_code.proofs.literals.distinct_literals.Goals as goal

pub loop-instruction-preserved-in_default : goal.loop-instruction-preserved-in_default
loop-instruction-preserved-in_default c =
    let step = literals_more (λ i. i.now) c.args.instructions.now c.loop-instruction.instruction-index c.instruction-item.result (omega arith) c.instruction-item.is in
    let none : filter_map literal_of (c.instruction-item.result.now ∷ []) ≡ [] = ap (λ o. cons_option o []) (no_literal c.instruction-item.result.now c.in_default.not-LoadString) in
    c.loop-instruction.invariant ∙ sym (ap (each_once same_text) (step ∙ ap (λ z. filter_map literal_of (map (λ i. i.now) (take c.loop-instruction.instruction-index c.args.instructions.now)) ++ z) none ∙ append-nil _))

pub loop-instruction-preserved : goal.loop-instruction-preserved
loop-instruction-preserved c =
    let before = filter_map literal_of (map (λ i. i.now) (take c.loop-instruction.instruction-index c.args.instructions.now)) in
    let step = literals_more (λ i. i.now) c.args.instructions.now c.loop-instruction.instruction-index c.instruction-item.result (omega arith) c.instruction-item.is in
    let one : filter_map literal_of (c.instruction-item.result.now ∷ []) ≡ c.in-LoadString.text ∷ [] = ap (λ i. filter_map literal_of (i ∷ [])) c.in-LoadString.is in
    ap (map text_of_key) c.in_ok-insert.ensures.keys ∙ literal_met c.loop-instruction.texts.keys _ before c.loop-instruction.invariant ∙ sym (ap (each_once same_text) (step ∙ ap (λ z. before ++ z) one))

pub returns : goal.returns
returns c =
    c.loop-instruction.invariant ∙ ap (λ is. each_once same_text (filter_map literal_of (map (λ i. i.now) is))) (take_all c.loop-instruction.instruction-index c.args.instructions.now c.loop-instruction-test.false)

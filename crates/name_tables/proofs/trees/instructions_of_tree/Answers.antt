use Rattle.std.proofs.Common.{◌≡◌, ◌++◌, ◌∷◌, [], arith, sym, ap, ◌∙◌, map, flat_map, length, take}
use Rattle.std.proofs.lemmas.Grind.{flat_map-append}
use Rattle.std.proofs.lemmas.List.{append-nil}
use Rattle.std.proofs.Math.Seq.{take-length}
use Rattle.cil_model.specs.Mentions.{instructions_of}
use Rattle.name_tables.proofs.Lists.{map-take_more}
use Rattle.name_tables.proofs.trees.instructions_of_tree.Goals as goal

pub loop-method-preserved : goal.loop-method-preserved
loop-method-preserved c =
    let methods = c.as_slice-method-items.result.now in
    let before = map (λ m. m.now) (take c.loop-method.method-index methods) in
    let one = c.method-item.result.now in
    c.in_ok-add_instructions.ensures ∙ ap (λ z. z ++ instructions_of one) c.loop-method.invariant ∙ ap (λ z. flat_map instructions_of before ++ z) (sym (append-nil (instructions_of one))) ∙
    sym (flat_map-append instructions_of before (one ∷ [])) ∙ ap (flat_map instructions_of) (sym (map-take_more (λ m. m.now) methods c.loop-method.method-index c.method-item.result (omega arith) c.method-item.is))

pub returns : goal.returns
returns c =
    let methods = c.as_slice-method-items.result.now in
    let z : c.loop-method.method-index ≡ length methods = omega arith in
    c.loop-method.invariant ∙ ap (λ n. flat_map instructions_of (map (λ m. m.now) (take n methods))) z ∙
    ap (flat_map instructions_of) (ap (map (λ m. m.now)) (take-length methods ∙ c.as_slice-method-items.ensures.value) ∙ c.in_ok-methods.ensures)

pub loop-method-init : goal.loop-method-init
loop-method-init c = ap (map (λ i. i.now)) c.new-instructions.ensures.items

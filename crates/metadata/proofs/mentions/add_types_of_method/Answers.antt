use Rattle.std.proofs.Common.{◌≡◌, ◌++◌, List, [], map, take, length, ap, ◌∙◌, arith}
use Rattle.std.specs.Prelude.{flat_map}
use Rattle.std.proofs.Math.Seq.{take-length}
use Rattle.cil_model.specs.declared.trees.Line.{Line}
use Rattle.cil_model.specs.declared.types.DeclaredType.{DeclaredType}
use Rattle.cil_model.specs.Mentions.{types_of_instruction}
use Rattle.metadata.proofs.MentionLaws.{more_named, method_types}
use Rattle.metadata.proofs.mentions.add_types_of_method.Goals as goal

pub loop-line-preserved : goal.loop-line-preserved
loop-line-preserved c =
    more_named (λ (x : Line). types_of_instruction x.instruction) c.lines_of-code-items.result.now c.loop-line.line c.code-item.result _ _ _ (omega arith) c.code-item.is
    c.loop-line.invariant (c.in_ok-add_to-3.ensures ∙ ap (λ (ts : List DeclaredType). map (λ t. t.declared.now) c.loop-line.types.items ++ ts) c.of_instruction-named.ensures)

pub returns : goal.returns
returns c =
    let m = c.args.declared.now in
    let items = c.lines_of-code-items.result.now in
    let before = map (λ t. t.declared.now) c.add_to-2.new.types.items in
    let z : c.loop-line.line ≡ length items = omega arith in
    let all : take c.loop-line.line items ≡ items = ap (λ n. take n items) z ∙ take-length items in
    method_types m _ (map (λ t. t.declared.now) c.add_to.new.types.items) before _ (c.in_ok-add_to.ensures ∙ ap (λ (ts : List DeclaredType). map (λ t. t.declared.now) c.args.types.now.items ++ ts) c.of_signature-signature.ensures)
    (c.in_ok-add_to-2.ensures ∙ ap (λ (ts : List DeclaredType). map (λ t. t.declared.now) c.add_to.new.types.items ++ (ts ++ [])) c.locals_of.ensures)
    (c.loop-line.invariant ∙ ap (λ (xs : List Line). before ++ flat_map (λ (x : Line). types_of_instruction x.instruction) xs) (all ∙ c.lines_of-code-items.ensures))

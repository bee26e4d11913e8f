use Rattle.std.proofs.Common.{Bool, is_none, refl, sym, ap, ◌∙◌, arith, ◌&&◌, map}
use Rattle.std.specs.List.{list_all}
use Rattle.std.proofs.lemmas.List.{at_drop_all}
use Rattle.cil_model.specs.declared.trees.Line.{Line}
use Rattle.name_tables.specs.Keys.{text_of_key}
use Rattle.metadata.proofs.UnknownLaws.{is_instruction, are_labels}
use Rattle.resolved_code.proofs.ListLaws.Tests.{all_after}
use Rattle.metadata.proofs.WalkLaws.{all_fail}
use Rattle.metadata.proofs.unknown.unknown_by_lines.Goals as goal

pub loop-line-init : goal.loop-line-init
loop-line-init c = refl

pub loop-line-preserved : goal.loop-line-preserved
loop-line-preserved c =
    let t = c.args.names.now.classes.tree.now in
    let p : Line → Bool = λ x. is_instruction t x.instruction && are_labels (map text_of_key c.args.labels.now) x.instruction in
    all_after p c.args.lines.now c.loop-line.line c.index-lines-line.result (omega arith) c.index-lines-line.is (sym c.unknown_by_line.ensures ∙ ap is_none c.in_default.is) ∙ c.loop-line.invariant

pub returns-in-Some : goal.returns-in-Some
returns-in-Some c =
    let t = c.args.names.now.classes.tree.now in
    let p : Line → Bool = λ x. is_instruction t x.instruction && are_labels (map text_of_key c.args.labels.now) x.instruction in
    sym (all_fail p c.args.lines.now c.loop-line.line c.index-lines-line.result (omega arith) c.index-lines-line.is (sym c.unknown_by_line.ensures ∙ ap is_none c.in-Some.is)) ∙ c.loop-line.invariant

pub returns : goal.returns
returns c =
    let t = c.args.names.now.classes.tree.now in
    let p : Line → Bool = λ x. is_instruction t x.instruction && are_labels (map text_of_key c.args.labels.now) x.instruction in
    sym (at_drop_all (list_all p) c.args.lines.now c.loop-line.line (omega arith)) ∙ c.loop-line.invariant

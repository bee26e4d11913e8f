use Rattle.std.proofs.Common.{◌≡◌, ◌+◌, ◌++◌, ◌∷◌, [], ℕ, length, map, sym, ap, ◌∙◌, subst}
use Rattle.std.proofs.lemmas.List.{length-append, length-map, map-append}
use Rattle.cil_model.specs.declared.trees.Tree.{Tree}
use Rattle.flow_rules.specs.Merging.{IsLine, AreLines}
use Rattle.flow_rules.proofs.LineLaws.{no_lines, lines_more}
use Rattle.flow_rules.proofs.type_tree.TypeTree.rows.Goals as goal

pub loop-class-preserved : goal.loop-class-preserved
loop-class-preserved c =
    let tree : Tree = c.args.self.now in
    let rows = c.loop-class.rows.items in
    let row = c.in_ok-line_from.field-0 in
    let width : length (map (λ r. r.items) rows) ≡ c.loop-class.class = length-map rows (λ r. r.items) ∙ c.loop-class.invariant.0 in
    let here : IsLine tree (length (map (λ r. r.items) rows)) row.items = subst (λ (n : ℕ). IsLine tree n row.items) (sym width) c.in_ok-line_from.ensures in
    let whole : map (λ r. r.items) c.push.new.self.items ≡ map (λ r. r.items) rows ++ row.items ∷ [] = ap (map (λ r. r.items)) c.in_ok-push.ensures.items ∙ map-append (λ r. r.items) rows (row ∷ []) in (
      ap length c.in_ok-push.ensures.items ∙ length-append rows (row ∷ []) ∙ ap (λ n. n + 1) c.loop-class.invariant.0,
      subst (AreLines tree) (sym whole) (lines_more tree (map (λ r. r.items) rows) row.items c.loop-class.invariant.1 here),
    )

pub loop-class-init : goal.loop-class-init
loop-class-init c = (ap length c.new-rows.ensures.items, subst (AreLines c.args.self.now) (sym (ap (map (λ r. r.items)) c.new-rows.ensures.items)) (no_lines c.args.self.now))

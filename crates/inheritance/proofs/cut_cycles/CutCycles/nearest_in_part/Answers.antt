use Rattle.std.proofs.Common.{◌<◌, ◌+◌, Some, map, sym, ap, ◌∙◌, arith}
use Rattle.std.proofs.lemmas.Option.{same_Some}
use Rattle.inheritance.specs.declared.changes.Declared.{Declared}
use Rattle.inheritance.specs.Lines.{line_within, index_in, nearest}
use Rattle.inheritance.specs.ScopedTables.{pair_of}
use Rattle.inheritance.proofs.CutLaws.{finds_nothing, found_in_part}
use Rattle.inheritance.proofs.cut_cycles.CutCycles.nearest_in_part.Goals as goal

pub returns-in_default-clause-absent : goal.returns-in_default-clause-absent
returns-in_default-clause-absent c = λ e n.
    let cut = c.args.self.now.cut.forest in
    let at = index_in (map (λ v. v.items) cut.declared.items) c.args.key in
    finds_nothing at cut.bases.items cut.most (Some c.args.class) c.in_ok-found.ensures.ended (sym c.in_ok-found.ensures.found ∙ ap pair_of c.in_default.is) n

pub returns-then-part-saturating_add-clause-found : goal.returns-then-part-saturating_add-clause-found
returns-then-part-saturating_add-clause-found c = λ declared e.
    let forest = c.args.forest.now in
    let cut = c.args.self.now.cut.forest in
    let found = c.in-Some.found in
    let part = c.in_ok-part.part in
    let rest = c.in_ok-rest.rest in
    let at = index_in (map (λ v. v.items) forest.declared.items) c.args.key in
    let there = ap (λ rows. nearest (index_in rows c.args.key) (line_within cut.bases.items cut.most (Some c.args.class))) c.requires.cut.declared in
    let less : part.length < rest.length + c.args.left = omega (arith, c.if-part-saturating_add.true, c.saturating_add.ensures) in
    found_in_part at forest.bases.items cut.bases.items c.args.self.now.parts.items c.requires.cut.bases c.args.self.now.parted cut.most c.args.left c.args.class part (found.class, found.index) rest c.in_ok-part.ensures (sym there ∙ sym c.in_ok-found.ensures.found ∙ ap pair_of c.in-Some.is) c.in_ok-rest.ensures less ∙
    ap (λ (d : Declared). Some (d.class, d.index)) (same_Some found declared e)

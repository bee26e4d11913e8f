use Rattle.std.proofs.Common.{◌≡◌, ◌≤◌, ◌-◌, ℕ, Some, map, refl, sym, ap, subst, ◌∙◌, arith}
use Rattle.std.proofs.lemmas.Option.{same_Some, none-some}
use Rattle.inheritance.specs.declared.cut_cycles.Part.{Part}
use Rattle.inheritance.specs.Lines.{base_in, line_within, index_in, nearest}
use Rattle.inheritance.specs.CutCycles.{part_in}
use Rattle.inheritance.proofs.CutLaws.{FindsNothing, continues_after, nothing_round}
use Rattle.inheritance.proofs.cut_cycles.CutCycles.nearest_after.Goals as goal

pub returns-in_default : goal.returns-in_default
returns-in_default c = λ class e h.
    let forest = c.args.forest.now in
    let cut = c.args.self.now.cut.forest in
    let at = index_in (map (λ v. v.items) forest.declared.items) c.args.key in
    let nothing : FindsNothing at cut.bases.items (Some class) = subst (λ rows. FindsNothing (index_in rows c.args.key) cut.bases.items (Some class)) c.requires.cut.declared h in
    sym (nothing_round at forest.bases.items cut.bases.items c.args.self.now.parts.items c.requires.cut.bases c.args.self.now.parted forest.most class c.args.part.last c.args.part e refl nothing (λ base g. absurd (none-some base (c.in_default.ensures ∙ g))))

pub returns-in-Some-2 : goal.returns-in-Some-2
returns-in-Some-2 c = λ class e h.
    let forest = c.args.forest.now in
    let cut = c.args.self.now.cut.forest in
    let at = index_in (map (λ v. v.items) forest.declared.items) c.args.key in
    let nothing : FindsNothing at cut.bases.items (Some class) = subst (λ rows. FindsNothing (index_in rows c.args.key) cut.bases.items (Some class)) c.requires.cut.declared h in
    let room : c.args.part.length ≤ forest.most = omega (arith, c.in-Some-checked_sub.ensures) in
    let left : c.in-Some-checked_sub.left ≡ forest.most - c.args.part.length = omega (arith, c.in-Some-checked_sub.ensures) in
    sym (c.in_ok-found.ensures.found c.in-Some-2.found c.in-Some-2.is) ∙
    ap (λ n. nearest at (line_within forest.bases.items n (Some c.in-Some.base))) left ∙
    ap (λ o. nearest at (line_within forest.bases.items (forest.most - c.args.part.length) o)) c.in-Some.ensures ∙
    sym (continues_after at forest.bases.items cut.bases.items c.args.self.now.parts.items c.requires.cut.bases c.args.self.now.parted forest.most class c.args.part e nothing room)

pub returns-in-None : goal.returns-in-None
returns-in-None c = λ class e h.
    let forest = c.args.forest.now in
    let cut = c.args.self.now.cut.forest in
    let parts = c.args.self.now.parts.items in
    let at = index_in (map (λ v. v.items) forest.declared.items) c.args.key in
    let nothing : FindsNothing at cut.bases.items (Some class) = subst (λ rows. FindsNothing (index_in rows c.args.key) cut.bases.items (Some class)) c.requires.cut.declared h in
    let following : FindsNothing at cut.bases.items (Some c.in-Some.base) = subst (λ rows. FindsNothing (index_in rows c.args.key) cut.bases.items (Some c.in-Some.base)) c.requires.cut.declared (c.in_ok-found.ensures.absent c.in-None.is) in
    let again : (base : ℕ) → base_in forest.bases.items c.args.part.last ≡ Some base → (next : Part) × (part_in parts base ≡ Some next) × (next.last ≡ c.args.part.last) × FindsNothing at cut.bases.items (Some base) =
    λ base g. subst (λ (b : ℕ). (next : Part) × (part_in parts b ≡ Some next) × (next.last ≡ c.args.part.last) × FindsNothing at cut.bases.items (Some b)) (same_Some c.in-Some.base base (c.in-Some.ensures ∙ g)) (c.in_ok-next.next, c.in_ok-next.ensures, c.if-next-part.true, following) in
    sym (nothing_round at forest.bases.items cut.bases.items parts c.requires.cut.bases c.args.self.now.parted forest.most class c.args.part.last c.args.part e refl nothing again)

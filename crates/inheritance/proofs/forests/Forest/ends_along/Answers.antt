use Rattle.std.proofs.Common.{◌≡◌, ◌↔◌, ◌-◌, Option, ℕ, not, refl, sym, ap, ◌∙◌, subst, arith}
use Rattle.std.proofs.lemmas.Bool.{not-false}
use Rattle.inheritance.specs.Lines.{Ends}
use Rattle.inheritance.proofs.LineLaws.{EndsFrom, ends_from_none, ends_step, ends_at_once}
use Rattle.inheritance.proofs.forests.Forest.ends_along.Goals as goal

pub loop-left-preserved : goal.loop-left-preserved
loop-left-preserved c =
    let bases = c.args.self.now.bases.items in
    let step = ends_step bases c.loop-left.left c.in-Some.class (omega arith) in
    let inv = subst (λ (o : Option ℕ). EndsFrom bases c.loop-left.left o ↔ Ends bases c.args.self.now.most c.args.first) c.in-Some.is c.loop-left.invariant in
    subst (λ (o : Option ℕ). EndsFrom bases (c.loop-left.left - 1) o ↔ Ends bases c.args.self.now.most c.args.first) (sym c.base-next.ensures) (λ e. inv.0 (step.1 e), λ e. step.0 (inv.1 e))

pub returns-in_default : goal.returns-in_default
returns-in_default c =
    let bases = c.args.self.now.bases.items in
    (λ e. c.loop-left.invariant.0 (subst (EndsFrom bases c.loop-left.left) (sym c.in_default.is) (ends_from_none bases c.loop-left.left)), λ e. refl)

pub returns : goal.returns
returns c =
    let bases = c.args.self.now.bases.items in
    let none : 0 ≡ c.loop-left.left = omega arith in
    let inv = subst (λ (n : ℕ). EndsFrom bases n c.loop-left.next ↔ Ends bases c.args.self.now.most c.args.first) (sym none) c.loop-left.invariant in
    let at_once = ends_at_once bases c.loop-left.next in
    (λ e. inv.0 (at_once.0 (c.is_none.ensures ∙ ap not e)), λ e. not-false c.is_none.result (sym c.is_none.ensures ∙ at_once.1 (inv.1 e)))

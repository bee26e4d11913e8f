use Rattle.std.proofs.Common.{◌≡◌, ◌==◌, ℕ, true, false, sym, ap, ◌∙◌}
use Rattle.std.proofs.lemmas.Bool.{eqb-true, eq-eqb}
use Rattle.name_tables.specs.Numbers.{method_at}
use Rattle.loaded_program.proofs.ActionLaws.{of_object, of_console, of_others}
use Rattle.loaded_program.proofs.actions.action_at.Goals as goal

apart : (a b : ℕ) → (a == b) ≡ false → a ≡ b → ⊥
apart a b differs same = let both : true ≡ false = sym (eq-eqb a b same) ∙ differs in cc

pub returns-then-eq : goal.returns-then-eq
returns-then-eq c = λ tree k m h. of_object tree k m c.args.member.index (sym (ap (λ n. method_at tree (n, c.args.member.index)) (eqb-true c.args.member.class 0 (sym c.eq.ensures ∙ c.if-eq.true))) ∙ h)

pub returns-then-eq-2 : goal.returns-then-eq-2
returns-then-eq-2 c = λ tree k m h. of_console tree k m c.args.member.index (sym (ap (λ n. method_at tree (n, c.args.member.index)) (eqb-true c.args.member.class 2 (sym c.eq-else-eq.ensures ∙ c.if-eq-2.true))) ∙ h)

pub returns-then-eq-3 : goal.returns-then-eq-3
returns-then-eq-3 c =
    λ tree k m h. c.monitor_action.ensures tree k m (sym (ap (λ n. method_at tree (n, c.args.member.index)) (eqb-true c.args.member.class 3 (sym c.eq-else-eq-2.ensures ∙ c.if-eq-3.true))) ∙ h)

pub returns-then-eq-4 : goal.returns-then-eq-4
returns-then-eq-4 c =
    λ tree k m h. c.thread_action.ensures tree k m (sym (ap (λ n. method_at tree (n, c.args.member.index)) (eqb-true c.args.member.class 4 (sym c.eq-else-eq-3.ensures ∙ c.if-eq-4.true))) ∙ h)

pub returns-else-eq-4 : goal.returns-else-eq-4
returns-else-eq-4 c =
    let class = c.args.member.class in
    let a = apart class 0 (sym c.eq.ensures ∙ c.if-eq.false) in
    let b = apart class 2 (sym c.eq-else-eq.ensures ∙ c.if-eq-2.false) in
    let d = apart class 3 (sym c.eq-else-eq-2.ensures ∙ c.if-eq-3.false) in
    let f = apart class 4 (sym c.eq-else-eq-3.ensures ∙ c.if-eq-4.false) in
    λ tree k m h. of_others tree k m class c.args.member.index a b d f h

use Rattle.std.proofs.Common.{◌≡◌, ◌==◌, ℕ, suc, true, false, List, length, option_map, sym, ap, ◌∙◌}
use Rattle.std.proofs.lemmas.Bool.{eqb-true, eq-eqb}
use Rattle.std.proofs.lemmas.Option.{none-some, same_Some}
use Rattle.cil_model.specs.declared.trees.Tree.{Tree}
use Rattle.inheritance.specs.Lines.{line_within, base_in}
use Rattle.name_tables.specs.declared.ids.MethodId.{MethodId}
use Rattle.name_tables.specs.Keys.{call_identity_of_key}
use Rattle.name_tables.specs.Members.{base_numbers}
use Rattle.name_tables.specs.Methods.{call_index}
use Rattle.name_tables.proofs.MemberLaws.{found_in_own, not_in_own}
use Rattle.name_tables.proofs.lookups.NameTables.own_call_of.Goals as goal

abbrev pair : MethodId → ℕ × ℕ
pair m = (m.class, m.index)

-- two numbers that a test finds unequal
apart : (a b : ℕ) → (a == b) ≡ false → a ≡ b → ⊥
apart a b differs same = let both : true ≡ false = sym (eq-eqb a b same) ∙ differs in cc

-- the classes along the bases
abbrev others : Tree → ℕ → List ℕ
others t class = line_within (base_numbers t) (suc (suc (length t.classes))) (base_in (base_numbers t) class)

pub returns-in-None : goal.returns-in-None
returns-in-None c =
    let t = c.args.self.now.classes.tree.now in
    not_in_own (call_index t (call_identity_of_key c.args.key)) c.args.class (others t c.args.class) (λ q e. none-some (c.args.class, q) (sym (ap (option_map pair) c.in-None.is) ∙ c.call_from.ensures ∙ e))

pub returns-then-eq : goal.returns-then-eq
returns-then-eq c =
    let t = c.args.self.now.classes.tree.now in
    found_in_own (call_index t (call_identity_of_key c.args.key)) c.args.class (others t c.args.class) (pair c.in-Some.found) (sym c.call_from.ensures ∙ ap (option_map pair) c.in-Some.is) (eqb-true c.in-Some.found.class c.args.class (sym c.eq.ensures ∙ c.if-eq.true))

pub returns-else-eq : goal.returns-else-eq
returns-else-eq c =
    let t = c.args.self.now.classes.tree.now in
    not_in_own (call_index t (call_identity_of_key c.args.key)) c.args.class (others t c.args.class)
    (λ q e. let same : pair c.in-Some.found ≡ (c.args.class, q) = same_Some (pair c.in-Some.found) (c.args.class, q) (sym (ap (option_map pair) c.in-Some.is) ∙ c.call_from.ensures ∙ e) in apart c.in-Some.found.class c.args.class (sym c.eq.ensures ∙ c.if-eq.false) (ap (λ (p : ℕ × ℕ). p.0) same))

use Rattle.std.proofs.Common.{◌≡◌, IfOk, List, ℕ, sym, subst, ◌∙◌}
use Rattle.cil_model.specs.Chains.{longest_chain}
use Rattle.name_tables.specs.Keys.{class_of_key}
use Rattle.name_tables.proofs.NumberLaws.{numbers_of_unknown}
use Rattle.name_tables.proofs.MemberLaws.{line_of_class}
use Rattle.name_tables.proofs.lookups.NameTables.chain.Goals as goal

pub returns-in-None : goal.returns-in-None
returns-in-None c =
    let t = c.args.self.now.classes.tree.now in
    c.new.ensures.items ∙ sym (numbers_of_unknown t (longest_chain t) (class_of_key c.args.name) (sym c.id.ensures ∙ c.in-None.is))

pub returns-in-Some : goal.returns-in-Some
returns-in-Some c =
    let line = line_of_class c.args.self.now.classes.tree.now (class_of_key c.args.name) c.in-Some.class (sym c.id.ensures ∙ c.in-Some.is) in
    subst (λ (numbers : List ℕ). IfOk c.line.result (λ v. v.items ≡ numbers)) line c.line.ensures

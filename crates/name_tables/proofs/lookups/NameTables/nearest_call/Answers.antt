use Rattle.std.proofs.Common.{sym, ap, ◌∙◌}
use Rattle.cil_model.specs.Chains.{longest_chain}
use Rattle.name_tables.specs.Keys.{class_of_key, call_identity_of_key}
use Rattle.name_tables.specs.Methods.{call_index}
use Rattle.name_tables.specs.Numbers.{nearest_number}
use Rattle.name_tables.proofs.NumberLaws.{numbers_of_unknown}
use Rattle.name_tables.proofs.MemberLaws.{line_of_class}
use Rattle.name_tables.proofs.lookups.NameTables.nearest_call.Goals as goal

pub returns-in_default : goal.returns-in_default
returns-in_default c =
    let t = c.args.self.now.classes.tree.now in
    sym (ap (nearest_number (call_index t (call_identity_of_key c.args.key))) (numbers_of_unknown t (longest_chain t) (class_of_key c.args.owner) (sym c.id.ensures ∙ c.in_default.is)))

pub returns : goal.returns
returns c =
    let t = c.args.self.now.classes.tree.now in
    c.call_from.ensures ∙ ap (nearest_number (call_index t (call_identity_of_key c.args.key))) (line_of_class t (class_of_key c.args.owner) c.in-Some.class (sym c.id.ensures ∙ c.in-Some.is))

use Rattle.std.proofs.Common.{◌≡◌, Some, sym, ap, ◌∙◌}
use Rattle.cil_model.specs.Chains.{longest_chain}
use Rattle.name_tables.specs.Keys.{class_of_key}
use Rattle.name_tables.specs.Members.{field_key_number, field_index}
use Rattle.name_tables.specs.Numbers.{class_number, nearest_number}
use Rattle.name_tables.proofs.NumberLaws.{numbers_of_unknown}
use Rattle.name_tables.proofs.MemberLaws.{nearest_in_table}
use Rattle.name_tables.proofs.lookups.NameTables.nearest_field.Goals as goal

pub returns-in_default : goal.returns-in_default
returns-in_default c =
    let t = c.args.self.now.classes.tree.now in
    sym (ap (nearest_number (field_index t c.args.key)) (numbers_of_unknown t (longest_chain t) (class_of_key c.args.owner) (sym c.id.ensures ∙ c.in_default.is)))

pub returns : goal.returns
returns c =
    let t = c.args.self.now.classes.tree.now in
    let e : class_number t (class_of_key c.args.owner) ≡ Some c.in-Some.class = sym c.id.ensures ∙ c.in-Some.is in
    c.field_id.ensures ∙ c.find.ensures ∙
    nearest_in_table t c.args.self.now.fields.inheritance.forest (field_key_number c.args.self.now.fields.keys) (field_index t) c.args.self.now.fields_are c.args.key (class_of_key c.args.owner) c.in-Some.class e

use Rattle.std.proofs.Common.{◌↔◌}
use Rattle.std.specs.Prelude.{IsTrue}
use Rattle.inheritance.specs.Lines.{Ends}
use Rattle.name_tables.specs.Members.{field_key_number, field_index}
use Rattle.name_tables.proofs.MemberLaws.{of_tree}
use Rattle.name_tables.proofs.lookups.NameTables.ends.Goals as goal

pub returns : goal.returns
returns c = rw (← c.number.ensures) (
    let t = c.args.self.now.classes.tree.now in
    let fields = c.args.self.now.fields in
    of_tree t fields.inheritance.forest (field_key_number fields.keys) (field_index t) c.args.self.now.fields_are (λ bases most. IsTrue c.ends.result ↔ Ends bases most c.number.result) c.ends.ensures
    )

use Rattle.std.proofs.Common.{Some, ap, ◌∙◌}
use Rattle.inheritance.specs.ScopedTables.{nearest_from}
use Rattle.name_tables.specs.declared.keys.CallNumber.{CallNumber}
use Rattle.name_tables.specs.KeyIds.{number_in}
use Rattle.name_tables.specs.Keys.{call_identity_of_key}
use Rattle.name_tables.specs.Methods.{call_number, call_index}
use Rattle.name_tables.specs.Sameness.{same_call}
use Rattle.name_tables.proofs.MemberLaws.{nearest_on_line}
use Rattle.name_tables.proofs.lookups.NameTables.call_from.Goals as goal

pub returns : goal.returns
returns c =
    let s = c.args.self.now in
    let t = s.classes.tree.now in
    let forest = s.calls.inheritance.forest in
    c.method_id.ensures ∙ c.find.ensures ∙ ap (λ (k : CallNumber). nearest_from forest (number_in same_call s.calls.keys k) forest.most (Some c.args.class)) c.call_number.ensures ∙
    nearest_on_line t forest (call_number s.methods.keys s.calls.keys) (call_index t) s.calls_are (call_identity_of_key c.args.key) c.args.class

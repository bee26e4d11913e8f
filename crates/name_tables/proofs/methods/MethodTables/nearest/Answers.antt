use Rattle.std.proofs.Common.{Some, ap, ◌∙◌}
use Rattle.inheritance.specs.Lines.{Ends}
use Rattle.inheritance.specs.ScopedTables.{nearest_from}
use Rattle.name_tables.specs.Keys.{method_of_key}
use Rattle.name_tables.specs.Methods.{identity_number, method_index}
use Rattle.name_tables.specs.Sameness.{same_identity}
use Rattle.name_tables.proofs.KeyNumbers.{number_of_view}
use Rattle.name_tables.proofs.MemberLaws.{nearest_on_line, of_tree}
use Rattle.name_tables.proofs.methods.MethodTables.nearest.Goals as goal

pub returns-in-Ok-clause-found : goal.returns-in-Ok-clause-found
returns-in-Ok-clause-found c =
    let t = c.args.self.now.names.now.classes.tree.now in
    let all = c.args.self.now.names.now.methods in
    let forest = all.inheritance.forest in
    c.method_id.ensures ∙ c.in-Ok.ensures.found ∙ ap (λ n. nearest_from forest n forest.most (Some c.args.class)) (number_of_view method_of_key same_identity all.keys c.args.key) ∙
    nearest_on_line t forest (identity_number all.keys) (method_index t) c.args.self.now.names.now.methods_are.table (method_of_key c.args.key) c.args.class

pub returns-in-Ok-clause-ended : goal.returns-in-Ok-clause-ended
returns-in-Ok-clause-ended c =
    let t = c.args.self.now.names.now.classes.tree.now in
    let tables = c.args.self.now.names.now.methods in
    of_tree t tables.inheritance.forest (identity_number tables.keys) (method_index t) c.args.self.now.names.now.methods_are.table (λ bases most. Ends bases most c.args.class) c.in-Ok.ensures.ended

pub returns-in-Err-clause-cyclic : goal.returns-in-Err-clause-cyclic
returns-in-Err-clause-cyclic c =
    let t = c.args.self.now.names.now.classes.tree.now in
    let tables = c.args.self.now.names.now.methods in
    of_tree t tables.inheritance.forest (identity_number tables.keys) (method_index t) c.args.self.now.names.now.methods_are.table (λ bases most. ¬ Ends bases most c.args.class) c.in-Err.ensures.cyclic

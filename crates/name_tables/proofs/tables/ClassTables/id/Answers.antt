use Rattle.std.proofs.Common.{◌≡◌, List, Some, map, sym, ap, ◌∙◌}
use Rattle.std.specs.List.{position_from}
use Rattle.cil_model.specs.declared.trees.Tree.{Tree}
use Rattle.cil_model.specs.declared.types.ClassName.{ClassName}
use Rattle.cil_model.specs.Same.{same_class}
use Rattle.cil_model.specs.Declarations.{Declaration}
use Rattle.name_tables.specs.Keys.{class_of_key}
use Rattle.name_tables.specs.declared.keys.ClassKey.{ClassKey}
use Rattle.name_tables.specs.Numbers.{class_number, declarations}
use Rattle.name_tables.proofs.NumberLaws.{position_from-map}
use Rattle.name_tables.proofs.tables.ClassTables.id.Goals as goal

-- the first of the keys with a name is the class that the name refers to
found_by_name : (t : Tree) (name : ClassName) (names : List ClassKey) → map class_of_key names ≡ map (λ (e : ClassName × Declaration). e.0) (declarations t) → position_from (λ k. same_class name (class_of_key k)) 0 names ≡ class_number t name
found_by_name t name names are =
    sym (position_from-map class_of_key (same_class name) 0 names) ∙ ap (position_from (same_class name) 0) are ∙ position_from-map (λ (e : ClassName × Declaration). e.0) (same_class name) 0 (declarations t)

pub returns-in_err-number : goal.returns-in_err-number
returns-in_err-number c = c.from_residual.ensures ∙ c.in_err-number.ensures ∙ found_by_name c.args.self.now.tree.now (class_of_key c.args.name) c.args.self.now.names c.args.self.now.names_are

pub returns : goal.returns
returns c = ap Some c.new.ensures ∙ c.in_ok-number.ensures ∙ found_by_name c.args.self.now.tree.now (class_of_key c.args.name) c.args.self.now.names c.args.self.now.names_are

use Rattle.std.proofs.Common.{sym, ap, ◌∙◌, option_map}
use Rattle.cil_model.specs.declared.types.ClassName.{ClassName}
use Rattle.cil_model.specs.Declarations.{Declaration}
use Rattle.name_tables.specs.Entries.{entry_of}
use Rattle.name_tables.specs.Keys.{class_of_key}
use Rattle.name_tables.proofs.Lists.{option_map_of_map}
use Rattle.name_tables.proofs.NumberLaws.{declared_at_none, declared_at_number}
use Rattle.name_tables.proofs.tables.ClassTables.declared_class.Goals as goal

pub returns-in-None : goal.returns-in-None
returns-in-None c = sym (declared_at_none c.args.self.now.tree.now (class_of_key c.args.name) (sym c.in-None.ensures))

pub returns-in-Some : goal.returns-in-Some
returns-in-Some c =
    sym (option_map_of_map (λ d. entry_of d.now) (λ (e : ClassName × Declaration). e.1) c.class.result) ∙
    ap (option_map (λ (e : ClassName × Declaration). e.1)) c.class.ensures ∙ declared_at_number c.args.self.now.tree.now (class_of_key c.args.name) c.in-Some.class (sym c.in-Some.ensures)

-- A class's name with what it declares.
use Rattle.std.specs.Prelude.{map, option_map}
use Rattle.cil_model.specs.declared.types.ClassName.{ClassName}
use Rattle.cil_model.specs.Declarations.{Declaration}
use Rattle.name_tables.specs.declared.classes.DeclaredClass.{DeclaredClass}
use Rattle.name_tables.specs.Keys.{class_of_key}

abbrev pub declaration_in : DeclaredClass → Declaration
declaration_in d = record {
  is_interface = d.is_interface;
  is_abstract = d.is_abstract;
  base = option_map (λ b. b.now) d.base;
  interfaces = d.interfaces.now;
  fields = map (λ f. f.now) d.fields.items;
  methods = map (λ m. m.now) d.methods.items;
}

abbrev pub entry_of : DeclaredClass → ClassName × Declaration
entry_of d = (class_of_key d.name, declaration_in d)

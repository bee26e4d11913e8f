-- How many fields a class declares.
use Rattle.std.specs.Prelude.{ℕ, Bool, true, false, count_by, slice_get}
use Rattle.std.specs.Option.{option_map_or}
use Rattle.cil_model.specs.declared.types.ClassName.{ClassName}
use Rattle.cil_model.specs.declared.trees.Tree.{Tree}
use Rattle.cil_model.specs.declared.trees.Class.{Class}
use Rattle.cil_model.specs.declared.trees.Field.{Field}
use Rattle.cil_model.specs.Same.{same_flag}
use Rattle.cil_model.specs.Declarations.{Declaration, declaration_of, source_name}
use Rattle.name_tables.specs.Numbers.{declarations}

-- how many static or instance fields a class declares (II.16)
abbrev pub count_in : Bool → Declaration → ℕ
count_in is_static d = count_by (λ (f : Field). same_flag f.is_static is_static) d.fields

-- how many instance fields the class of a number declares (II.16)
abbrev pub instance_count : Tree → ℕ → ℕ
instance_count tree n = option_map_or (λ (e : ClassName × Declaration). count_in false e.1) (slice_get (declarations tree) n) 0

-- how many static fields the class with the name of a class of the source declares (II.16)
abbrev pub static_count : Tree → Class → ℕ
static_count tree c = option_map_or (count_in true) (declaration_of tree (source_name c)) 0

-- What static fields hold at first (II.16).
use Rattle.std.specs.Prelude.{List, map, filter}
use Rattle.cil_model.specs.declared.trees.Class.{Class}
use Rattle.cil_model.specs.declared.trees.Field.{Field}
use Rattle.cil_model.specs.Declarations.{field_members, fields_unless_interface}
use Rattle.object_memory.specs.declared.values.Value.{Value}
use Rattle.cil_model.specs.ValueKinds.{kind_of_type}
use Rattle.threads_monitors.specs.Frames.{zero_value}

-- the fields that a class declares; an interface declares none (II.12)
abbrev pub declared_fields : Class → List Field
declared_fields c = fields_unless_interface c.kind (field_members c)

-- 0 or null for each static field among these
abbrev pub zeros_of : List Field → List Value
zeros_of fields = map (λ (f : Field). zero_value (kind_of_type f.field_type)) (filter (λ (f : Field). f.is_static) fields)

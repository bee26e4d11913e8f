-- The methods of interfaces, for all classes at once.
use Rattle.std.specs.Prelude.{◌≡◌, ℕ, Bool, true, false, List, Option, Some, Vec, slice_get}
use Rattle.std.specs.Global.{Global}
use Rattle.std.specs.List.{list_any, list_all}
use Rattle.cil_model.specs.declared.trees.Tree.{Tree}
use Rattle.cil_model.specs.declared.trees.Method.{Method}
use Rattle.name_tables.specs.Methods.{line_of, methods_at}
use Rattle.name_tables.specs.Sameness.{identity_of}
use Rattle.resolved_code.specs.VirtualSlots.{is_virtual_found}

-- whether each method of an interface has a virtual one from a class on (II.12.2)
abbrev pub has_all_methods : Tree → Option ℕ → ℕ → Bool
has_all_methods tree class interface = list_all (λ (m : Method). list_any (is_virtual_found tree (identity_of m)) (line_of tree class)) (methods_at tree interface)

-- from a class of which the table of an interface says that it lacks nothing each method of the interface has a virtual one
abbrev pub IsTable : Tree → ℕ → List Bool → Type 0
IsTable tree interface table = (class : ℕ) → slice_get table class ≡ Some false → has_all_methods tree (Some class) interface ≡ true

-- the table of an interface says of a class that it lacks nothing
abbrev pub IsReported : List (Vec Bool Global) → ℕ → ℕ → Type 0
IsReported tables class interface = (table : Vec Bool Global) × (slice_get tables interface ≡ Some table) × (slice_get table.items class ≡ Some false)

-- the tables of interfaces
abbrev pub AreTables : Tree → List (Vec Bool Global) → Type 0
AreTables tree tables = (interface : ℕ) (table : Vec Bool Global) → slice_get tables interface ≡ Some table → IsTable tree interface table.items

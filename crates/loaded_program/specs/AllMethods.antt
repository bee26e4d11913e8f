-- All methods of a tree, by flat numbers.
use Rattle.std.specs.Prelude.{ℕ, ◌+◌, ◌-◌, if◌then◌else◌, nat_lt, List, [], ◌∷◌, length, map, flat_map, take}
use Rattle.cil_model.specs.declared.types.ClassName.{ClassName}
use Rattle.cil_model.specs.declared.trees.Tree.{Tree}
use Rattle.cil_model.specs.declared.trees.Method.{Method}
use Rattle.cil_model.specs.Declarations.{Declaration}
use Rattle.name_tables.specs.declared.ids.MethodId.{MethodId}
use Rattle.name_tables.specs.Numbers.{declarations}

-- the methods that a class itself declares, each with the class's name
abbrev pub owned_methods : ClassName × Declaration → List (ClassName × Method)
owned_methods e = map (λ m. (e.0, m)) e.1.methods

-- the methods of all classes, in the order of the classes' numbers; a method's flat number is its index here
abbrev pub all_methods : Tree → List (ClassName × Method)
all_methods tree = flat_map owned_methods (declarations tree)

-- the flat number of the method at an index of a class: the methods of the classes before it, and the index
abbrev pub flat_number : Tree → ℕ → ℕ → ℕ
flat_number tree n p = length (flat_map owned_methods (take n (declarations tree))) + p

-- the flat number of the first method of each class, where that of the first class is given
abbrev pub first_numbers : ℕ → List (ClassName × Declaration) → List ℕ
first_numbers next [] = []
first_numbers next (e ∷ es) = next ∷ first_numbers (next + length e.1.methods) es

-- the id of the method at an index among those of these classes, whose first one has this number
abbrev pub id_among : ℕ → List (ClassName × Declaration) → ℕ → MethodId
id_among class [] index = record { class = class; index = index }
id_among class (e ∷ es) index = if nat_lt index (length e.1.methods) then record { class = class; index = index } else id_among (class + 1) es (index - length e.1.methods)

-- the id of the method with a flat number
abbrev pub method_id : Tree → ℕ → MethodId
method_id tree number = id_among 0 (declarations tree) number

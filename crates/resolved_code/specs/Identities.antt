-- The names and signatures of methods by numbers.
use Rattle.std.specs.Prelude.{ℕ, List, map, flat_map}
use Rattle.cil_model.specs.declared.types.ClassName.{ClassName}
use Rattle.cil_model.specs.declared.trees.Tree.{Tree}
use Rattle.cil_model.specs.Declarations.{Declaration}
use Rattle.name_tables.specs.KeyIds.{number_in}
use Rattle.name_tables.specs.Numbers.{declarations}
use Rattle.name_tables.specs.Sameness.{MethodIdentity, identity_of, same_identity}

-- the name and signature of each method, class by class in the order of the classes' numbers
abbrev pub identities : Tree → List MethodIdentity
identities tree = flat_map (λ (e : ClassName × Declaration). map identity_of e.1.methods) (declarations tree)

-- the number of a name and signature: the index of the first method that has them; the number of all methods where none has them
abbrev pub identity_number : Tree → MethodIdentity → ℕ
identity_number tree k = number_in same_identity (identities tree) k

-- The methods of a source by their numbers.
use Rattle.std.specs.Prelude.{List, map, Option}
use Rattle.cil_model.specs.declared.types.ClassName.{ClassName}
use Rattle.cil_model.specs.declared.trees.Tree.{Tree}
use Rattle.cil_model.specs.declared.trees.Class.{Class}
use Rattle.cil_model.specs.declared.trees.Method.{Method}
use Rattle.cil_model.specs.Declarations.{source_name, method_members}
use Rattle.name_tables.specs.declared.ids.MethodId.{MethodId}
use Rattle.name_tables.specs.Numbers.{method_at}

-- the method of each number, with its class
abbrev pub methods_at : Tree → List MethodId → List (Option (ClassName × Method))
methods_at tree members = map (λ (n : MethodId). method_at tree (n.class, n.index)) members

-- the methods of a class of the source, each with it
abbrev pub own_methods : Class → List (ClassName × Method)
own_methods c = map (λ (m : Method). (source_name c, m)) (method_members c)

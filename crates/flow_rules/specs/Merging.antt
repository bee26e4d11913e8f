-- The results of a merge.
use Rattle.std.specs.Prelude.{◌≡◌, ◌+◌, ℕ, List, [], Option, Some, None, slice_get, slice_index_or}
use Rattle.cil_model.specs.declared.types.ClassName.{ClassName}
use Rattle.cil_model.specs.declared.types.DeclaredType.{DeclaredType}
use Rattle.cil_model.specs.Declarations.{Declaration}
use Rattle.name_tables.specs.Numbers.{declarations}
use Rattle.cil_model.specs.declared.trees.Tree.{Tree}
use Rattle.cil_model.specs.TypeTree.{StackType, IsBelow, IsMerge, parent, ancestor}
use Rattle.resolved_code.specs.ResolvedPrograms.{AreResolved, IsResolvedClass}
use Rattle.resolved_code.specs.declared.classes.ResolvedClass.{ResolvedClass}
use Rattle.cil_model.specs.Legality.{IsLegal}
use Rattle.resolved_code.specs.declared.types.ResolvedElement.{ResolvedElement}
use Rattle.resolved_code.specs.declared.types.ResolvedElement.TheVariants.{Class}
use Rattle.flow_rules.specs.StackTypes.{element_named, stack_type}
use Rattle.flow_rules.specs.declared.entries.StackEntry.{StackEntry}

-- the merge, or that no type is above both (III.1.8.1.3)
abbrev pub IsMerged : Tree → StackEntry → StackEntry → Option StackEntry → Type 0
IsMerged tree a b (Some m) = IsMerge tree (stack_type tree a) (stack_type tree b) (stack_type tree m)
IsMerged tree a b None = (above : StackType) → IsBelow tree (stack_type tree a) above → IsBelow tree (stack_type tree b) above → ⊥

-- the classes of a legal tree by their numbers
pub record AreClasses (tree : Tree) (classes : List ResolvedClass) : Type 0 where
  pub legal : IsLegal tree
  pub resolved : AreResolved tree classes

-- the class with this number
abbrev pub IsClassAt : Tree → ℕ → ResolvedClass → Type 0
IsClassAt tree n class = (name : ClassName) × (declared : Declaration) × (slice_get (declarations tree) n ≡ Some (name, declared)) × IsResolvedClass tree declared class

-- the type has n parents above it
abbrev pub IsDepth : Tree → DeclaredType → ℕ → Type 0
IsDepth tree t n = (top : DeclaredType) × (ancestor tree n t ≡ Some top) × (parent tree top ≡ None)

-- two types are on the way up from another, the second above the first
abbrev pub IsFork : Tree → DeclaredType → DeclaredType → DeclaredType → Type 0
IsFork tree t below above = (n : ℕ) × (ancestor tree n t ≡ Some below) × (ancestor tree (n + 1) t ≡ Some above)

-- two types have the same number of parents above them
abbrev pub AreLevel : Tree → DeclaredType → DeclaredType → Type 0
AreLevel tree a b = (n : ℕ) × IsDepth tree a n × IsDepth tree b n

-- an element is n parents above another, with any brackets after both
abbrev pub IsUp : Tree → ResolvedElement → ℕ → ResolvedElement → Type 0
IsUp tree below n above = (brackets : ℕ) → ancestor tree n (record { element = element_named tree below; brackets = brackets }) ≡ Some (record { element = element_named tree above; brackets = brackets })

-- the element at index n is n parents above that of a class
abbrev pub IsLine : Tree → ℕ → List ResolvedElement → Type 0
IsLine tree class line = (n : ℕ) (above : ResolvedElement) → slice_get line n ≡ Some above → IsUp tree (Class class) n above

-- the same of each class
abbrev pub AreLines : Tree → List (List ResolvedElement) → Type 0
AreLines tree rows = (class : ℕ) → IsLine tree class (slice_index_or rows class [])

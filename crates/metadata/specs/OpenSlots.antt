-- Slots that abstract methods leave open, for all classes at once.
use Rattle.std.specs.Prelude.{◌≡◌, ℕ, Bool, true, false, not, ◌&&◌, List, map, Some, slice_get}
use Rattle.cil_model.specs.declared.types.ClassName.{ClassName}
use Rattle.cil_model.specs.declared.trees.Tree.{Tree}
use Rattle.cil_model.specs.declared.trees.Method.{Method}
use Rattle.cil_model.specs.Declarations.{Declaration}
use Rattle.cil_model.specs.Chains.{is_abstract_method}
use Rattle.name_tables.specs.Methods.{line_of}
use Rattle.name_tables.specs.Numbers.{declarations}
use Rattle.name_tables.specs.Sameness.{MethodIdentity, identity_of}
use Rattle.resolved_code.specs.VirtualSlots.{is_override, is_nearest_abstract, hides_abstract, IsDecided}

-- whether each method of each class is abstract (II.15.4.2)
abbrev pub marks_in : Tree → List (List Bool)
marks_in tree = map (λ (e : ClassName × Declaration). map (λ (m : Method). is_abstract_method m.kind) e.1.methods) (declarations tree)

-- whether a method hides an abstract one that is nearest along a list of classes, and is no override of it (II.10.3.1)
abbrev pub hides_one : Tree → List ℕ → Method → Bool
hides_one tree ns m = not (is_override m) && is_nearest_abstract tree (identity_of m) ns

-- of each class that is marked false, no abstract method is hidden along its bases
abbrev pub AreClear : Tree → List Bool → Type 0
AreClear tree may_hide = (class : ℕ) (k : MethodIdentity) → slice_get may_hide class ≡ Some false → hides_abstract tree k (line_of tree (Some class)) ≡ false

-- of each class that is marked true, each abstract method along its bases is overridden
abbrev pub AreDecided : Tree → List Bool → Type 0
AreDecided tree decided = (class : ℕ) → slice_get decided class ≡ Some true → IsDecided tree (line_of tree (Some class))

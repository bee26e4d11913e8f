-- Methods by their names and signatures, whether they are static or not.
use Rattle.std.specs.Prelude.{◌≡◌, ◌==◌, ℕ, Bool, false, List, [], map, flat_map, filter, find, Option, option_and_then, slice_get}
use Rattle.std.specs.List.{position_from}
use Rattle.std.specs.Option.{option_map_or}
use Rattle.cil_model.specs.declared.types.ClassName.{ClassName}
use Rattle.cil_model.specs.declared.trees.Tree.{Tree}
use Rattle.cil_model.specs.declared.trees.Method.{Method}
use Rattle.cil_model.specs.Declarations.{Declaration}
use Rattle.cil_model.specs.Chains.{is_virtual, longest_chain}
use Rattle.inheritance.specs.declared.forests.Forest.{Forest}
use Rattle.inheritance.specs.Lines.{line_within}
use Rattle.name_tables.specs.declared.keys.MethodKey.{MethodKey}
use Rattle.name_tables.specs.declared.keys.CallNumber.{CallNumber}
use Rattle.name_tables.specs.KeyIds.{number_in}
use Rattle.name_tables.specs.Keys.{method_of_key}
use Rattle.name_tables.specs.Members.{base_numbers, IsMemberTable}
use Rattle.name_tables.specs.Numbers.{declarations, index_in}
use Rattle.name_tables.specs.Sameness.{MethodIdentity, same_identity, identity_of, same_call_identity, call_identity_of, same_call}

-- the number of a name and signature among those of all declared methods
abbrev pub identity_number : List MethodKey → MethodIdentity → ℕ
identity_number keys k = number_in same_identity (map method_of_key keys) k

-- the index of a method in a class, by its name and signature
abbrev pub method_index : Tree → MethodIdentity → ℕ → Option ℕ
method_index tree k class = index_in (λ d. d.methods) (λ m. same_identity k (identity_of m)) tree class

-- whether the method that a class declares with this name and signature is virtual
abbrev pub has_virtual : Declaration → MethodIdentity → Bool
has_virtual d k = option_map_or (λ (m : Method). is_virtual m.kind) (find (λ m. same_identity k (identity_of m)) d.methods) false

-- the names and signatures of the virtual methods that a class declares
abbrev pub virtuals_of : Declaration → List MethodIdentity
virtuals_of d = filter (has_virtual d) (map identity_of d.methods)

-- the index of a virtual method among those of a class
abbrev pub virtual_index : Tree → MethodIdentity → ℕ → Option ℕ
virtual_index tree k class = option_and_then (λ (e : ClassName × Declaration). position_from (same_identity k) 0 (virtuals_of e.1)) (slice_get (declarations tree) class)

-- a class and those along its bases, by numbers
abbrev pub line_of : Tree → Option ℕ → List ℕ
line_of tree class = line_within (base_numbers tree) (longest_chain tree) class

-- the methods that the class of a number declares
abbrev pub methods_at : Tree → ℕ → List Method
methods_at tree class = option_map_or (λ (e : ClassName × Declaration). e.1.methods) (slice_get (declarations tree) class) []

-- the numbers of the methods that each class declares, by their names and signatures
abbrev pub AreNumbers : Tree → (MethodIdentity → ℕ) → List (List ℕ) → Type 0
AreNumbers tree number rows = rows ≡ map (λ (e : ClassName × Declaration). map (λ (m : Method). number (identity_of m)) e.1.methods) (declarations tree)

-- the methods of all classes, with a number for each name and signature
pub record IsMethodTable (tree : Tree) (keys : List MethodKey) (forest : Forest) : Type 0 where
  pub table : IsMemberTable tree forest (identity_number keys) (method_index tree)
  pub known : map method_of_key keys ≡ flat_map (λ (e : ClassName × Declaration). map identity_of e.1.methods) (declarations tree)
  pub numbers : AreNumbers tree (identity_number keys) (map (λ r. r.items) forest.declared.items)

-- the number of a name and signature among those of the virtual methods
abbrev pub virtual_number : List MethodKey → List ℕ → MethodIdentity → ℕ
virtual_number keys virtuals k = number_in (λ (a b : ℕ). a == b) virtuals (identity_number keys k)

-- the number of a name and signature with its staticness
abbrev pub call_of : (MethodIdentity → ℕ) → MethodIdentity × Bool → CallNumber
call_of number k = record { number = number k.0; is_static = k.1 }

abbrev pub call_number : List MethodKey → List CallNumber → MethodIdentity × Bool → ℕ
call_number keys calls k = number_in same_call calls (call_of (identity_number keys) k)

-- the index of a method in a class, by its name, signature and staticness
abbrev pub call_index : Tree → MethodIdentity × Bool → ℕ → Option ℕ
call_index tree k class = index_in (λ d. d.methods) (λ m. same_call_identity k (call_identity_of m)) tree class

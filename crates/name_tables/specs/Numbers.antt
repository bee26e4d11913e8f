-- The classes and members of a tree by numbers: built-in classes first, then those of the source, in order.
use Rattle.std.specs.Prelude.{ℕ, Bool, not, List, [], ◌∷◌, ◌++◌, map, filter_map, find, Option, Some, None, option_map, option_and_then, slice_get}
use Rattle.std.specs.Option.{option_map_or}
use Rattle.std.specs.List.{position_from}
use Rattle.cil_model.specs.declared.types.ClassName.{ClassName}
use Rattle.cil_model.specs.declared.trees.Tree.{Tree}
use Rattle.cil_model.specs.declared.trees.Class.{Class}
use Rattle.cil_model.specs.declared.trees.Field.{Field}
use Rattle.cil_model.specs.declared.trees.Method.{Method}
use Rattle.cil_model.specs.Same.{same_class}
use Rattle.cil_model.specs.Declarations.{Declaration, built_ins, source_name, declared_as, field_members, method_members}
use Rattle.cil_model.specs.declared.instructions.FieldReference.{FieldReference}
use Rattle.cil_model.specs.declared.instructions.MethodReference.{MethodReference}
use Rattle.cil_model.specs.Chains.{chain_of, classes_searched}
use Rattle.name_tables.specs.Sameness.{MethodIdentity, same_field, same_identity, same_call_identity, identity_of, call_identity_of}

abbrev pub source_entry : Class → ClassName × Declaration
source_entry c = (source_name c, declared_as c.kind (field_members c) (method_members c))

-- every class that a name may refer to, with what it declares; its number is its index
abbrev pub declarations : Tree → List (ClassName × Declaration)
declarations tree = built_ins ++ map source_entry tree.classes

-- the number of the class that a name refers to
abbrev pub class_number : Tree → ClassName → Option ℕ
class_number tree name = position_from (λ (e : ClassName × Declaration). same_class name e.0) 0 (declarations tree)

-- the numbers of a class's chain, without names that refer to nothing
abbrev pub chain_numbers : Tree → ClassName → List ℕ
chain_numbers tree c = filter_map (class_number tree) (chain_of tree c)

-- the first number at which an index is found, with that index
abbrev pub nearest_number : (ℕ → Option ℕ) → List ℕ → Option (ℕ × ℕ)
nearest_number at [] = None
nearest_number at (n ∷ ns) = option_map_or (λ index. Some (n, index)) (at n) (nearest_number at ns)

-- the field or method at an index of a class
abbrev pub member_at : {X : Type 0} → (Declaration → List X) → Tree → ℕ × ℕ → Option (ClassName × X)
member_at part tree number = option_and_then (λ (e : ClassName × Declaration). option_map (λ x. (e.0, x)) (slice_get (part e.1) number.1)) (slice_get (declarations tree) number.0)

-- the first index of a class at which a member passes
abbrev pub index_in : {X : Type 0} → (Declaration → List X) → (X → Bool) → Tree → ℕ → Option ℕ
index_in part test tree n = option_and_then (λ (e : ClassName × Declaration). position_from test 0 (part e.1)) (slice_get (declarations tree) n)

abbrev pub field_at : Tree → ℕ × ℕ → Option (ClassName × Field)
field_at = member_at (λ d. d.fields)

abbrev pub method_at : Tree → ℕ × ℕ → Option (ClassName × Method)
method_at = member_at (λ d. d.methods)

-- the class and the index of the field or method that a reference finds
abbrev pub field_number : Tree → Bool → FieldReference → Option (ℕ × ℕ)
field_number tree is_static r = nearest_number (index_in (λ d. d.fields) (same_field (record { is_static = is_static; field_type = r.field_type; name = r.name })) tree) (chain_numbers tree r.owner)

abbrev pub method_number : Tree → Bool → MethodReference → Option (ℕ × ℕ)
method_number tree is_instance r =
    nearest_number (index_in (λ d. d.methods) (λ m. same_call_identity (record { name = r.name; signature = r.signature }, not is_instance) (call_identity_of m)) tree)
    (filter_map (class_number tree) (classes_searched tree r.name r.owner))

-- the method of a class with this name and signature, by the number of the class
abbrev pub method_found : Tree → MethodIdentity → ℕ → Option Method
method_found tree k n = option_and_then (λ (e : ClassName × Declaration). find (λ m. same_identity k (identity_of m)) e.1.methods) (slice_get (declarations tree) n)

-- What the tables of members represent.
use Rattle.std.specs.Prelude.{◌≡◌, ℕ, List, map, Option, option_and_then}
use Rattle.cil_model.specs.declared.types.ClassName.{ClassName}
use Rattle.cil_model.specs.declared.trees.Tree.{Tree}
use Rattle.cil_model.specs.Declarations.{Declaration}
use Rattle.cil_model.specs.Chains.{longest_chain}
use Rattle.inheritance.specs.declared.forests.Forest.{Forest}
use Rattle.inheritance.specs.Lines as lines
use Rattle.name_tables.specs.declared.keys.FieldKey.{FieldKey}
use Rattle.name_tables.specs.KeyIds.{number_in}
use Rattle.name_tables.specs.Keys.{field_of_key}
use Rattle.name_tables.specs.Numbers.{declarations, class_number, index_in}
use Rattle.name_tables.specs.Sameness.{same_field}

-- the number of the base of each class
abbrev pub base_numbers : Tree → List (Option ℕ)
base_numbers tree = map (λ (e : ClassName × Declaration). option_and_then (class_number tree) e.1.base) (declarations tree)

-- the bases of a class end
abbrev pub EndsIn : Tree → ℕ → Type 0
EndsIn tree class = lines.Ends (base_numbers tree) (longest_chain tree) class

-- the classes of a tree with their bases, and the index of each key that they declare
pub record IsMemberTable {K : Type 0} (tree : Tree) (forest : Forest) (number : K → ℕ) (index : K → ℕ → Option ℕ) : Type 0 where
  pub bases : forest.bases.items ≡ base_numbers tree
  pub most : forest.most ≡ longest_chain tree
  pub indices : (key : K) (class : ℕ) → lines.index_in (map (λ r. r.items) forest.declared.items) (number key) class ≡ index key class

abbrev pub field_key_number : List FieldKey → FieldKey → ℕ
field_key_number keys key = number_in (λ (a b : FieldKey). same_field (field_of_key a) (field_of_key b)) keys key

-- the index of a field in a class
abbrev pub field_index : Tree → FieldKey → ℕ → Option ℕ
field_index tree key class = index_in (λ d. d.fields) (same_field (field_of_key key)) tree class

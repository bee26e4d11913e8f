-- What the slots of an object hold, by kinds.
use Rattle.std.specs.Prelude.{ℕ, ◌==◌, Bool, false, if◌then◌else◌, List, [], ◌∷◌, ◌++◌, map, filter_map, flat_map, reverse, slice_get, unwrap_or, Option, Some, None}
use Rattle.std.specs.List.{list_any}
use Rattle.cil_model.specs.declared.types.ClassName.{ClassName}
use Rattle.cil_model.specs.declared.types.DeclaredType.{DeclaredType}
use Rattle.cil_model.specs.declared.trees.Tree.{Tree}
use Rattle.cil_model.specs.declared.trees.Field.{Field}
use Rattle.cil_model.specs.Chains.{fields_declared}
use Rattle.cil_model.specs.Fields.{slot_types}
use Rattle.cil_model.specs.ValueKinds.{is_reference_kind, kind_of_type}
use Rattle.resolved_code.specs.ById.{type_named}
use Rattle.resolved_code.specs.declared.classes.ResolvedField.{ResolvedField}
use Rattle.class_layout.specs.declared.kinds.SlotKind.{SlotKind}
use Rattle.class_layout.specs.declared.kinds.SlotKind.TheVariants.{Hidden, Declared}

-- what a slot holds, by its declared type; the hidden field has none (this profile)
abbrev pub kind_of : Option DeclaredType → SlotKind
kind_of None = Hidden
kind_of (Some t) = Declared (kind_of_type t)

-- whether a slot of a kind holds a reference
abbrev pub holds_reference : SlotKind → Bool
holds_reference Hidden = false
holds_reference (Declared kind) = is_reference_kind kind

-- the kind of a field of objects
abbrev pub instance_kind : Field → Option SlotKind
instance_kind f = if f.is_static then None else Some (kind_of (Some f.field_type))

-- the same, of a field whose type is given by number
abbrev pub resolved_kind : Tree → ResolvedField → Option SlotKind
resolved_kind tree f = if f.is_static then None else Some (kind_of (Some (type_named tree f.field_type)))

-- the kinds of the instance fields that a class itself declares
abbrev pub own_kinds : Tree → ClassName → List SlotKind
own_kinds tree c = filter_map instance_kind (fields_declared tree c)

-- the kinds of an object's slots
abbrev pub slot_kinds : Tree → ClassName → List SlotKind
slot_kinds tree c = map kind_of (slot_types tree c)

-- the hidden field of a chain of threads' classes, by its numbers: Cilvm.Thread has number 4 (this profile)
abbrev pub hidden_kinds : List ℕ → List SlotKind
hidden_kinds chain = if list_any (λ n. n == 4) chain then Hidden ∷ [] else []

-- the kinds of an object's slots, by the numbers of its class's chain and a table of what each class declares itself
abbrev pub chain_kinds : List (List SlotKind) → List ℕ → List SlotKind
chain_kinds own chain = hidden_kinds chain ++ flat_map (λ n. unwrap_or (slice_get own n) []) (reverse chain)

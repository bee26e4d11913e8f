-- Numbers of static fields and slots of instance fields (II.16; this profile).
use Rattle.std.specs.Prelude.{ℕ, ◌+◌, ◌-◌, Bool, if◌then◌else◌, List, [], ◌∷◌, length, map, slice_get, unwrap_or}
use Rattle.cil_model.specs.declared.types.ClassName.{ClassName}
use Rattle.cil_model.specs.declared.trees.Tree.{Tree}
use Rattle.cil_model.specs.declared.trees.Field.{Field}
use Rattle.cil_model.specs.Declarations.{Declaration}
use Rattle.cil_model.specs.Chains.{fields_declared}
use Rattle.name_tables.specs.Numbers.{declarations}
use Rattle.class_layout.specs.Kinds.{own_kinds, slot_kinds}
use Rattle.class_layout.specs.declared.kinds.SlotKind.{SlotKind}

-- the first free number after a field that is counted, or one that is not
abbrev pub number_after : Bool → ℕ → ℕ
number_after is_counted next = if is_counted then next + 1 else next

-- the first free slot after a field: a static one has none
abbrev pub slot_after : Bool → ℕ → ℕ
slot_after is_static next = if is_static then next else next + 1

-- the fields of one class in source order, from the first free number of a static field and the first free slot of an object
abbrev pub fields_by_id : ℕ → ℕ → List Field → List ℕ
fields_by_id next_static next_slot [] = []
fields_by_id next_static next_slot (f ∷ fs) =
    (if f.is_static then next_static else next_slot) ∷ fields_by_id (number_after f.is_static next_static) (slot_after f.is_static next_slot) fs

-- the first free number after the static ones among some fields
abbrev pub statics_after : ℕ → List Field → ℕ
statics_after next [] = next
statics_after next (f ∷ fs) = statics_after (number_after f.is_static next) fs

-- the slot of the first instance field that a class itself declares
abbrev pub first_slot : Tree → ClassName → ℕ
first_slot tree c = length (slot_kinds tree c) - length (own_kinds tree c)

-- the fields of each class, the static ones with ids that are counted through all classes
abbrev pub field_rows : Tree → ℕ → List ClassName → List (List ℕ)
field_rows tree next [] = []
field_rows tree next (c ∷ cs) = fields_by_id next (first_slot tree c) (fields_declared tree c) ∷ field_rows tree (statics_after next (fields_declared tree c)) cs

-- the names of all classes, by number
abbrev pub class_names : Tree → List ClassName
class_names tree = map (λ (e : ClassName × Declaration). e.0) (declarations tree)

-- ---- the same, by whether each field is static

-- the fields of one class in source order
abbrev pub static_by_id : ℕ → ℕ → List Bool → List ℕ
static_by_id next_static next_slot [] = []
static_by_id next_static next_slot (b ∷ bs) =
    (if b then next_static else next_slot) ∷ static_by_id (number_after b next_static) (slot_after b next_slot) bs

-- the first free number after the static ones
abbrev pub statics_by_flag : ℕ → List Bool → ℕ
statics_by_flag next [] = next
statics_by_flag next (b ∷ bs) = statics_by_flag (number_after b next) bs

-- the first free slot after the instance ones
abbrev pub slots_by_flag : ℕ → List Bool → ℕ
slots_by_flag next [] = next
slots_by_flag next (b ∷ bs) = slots_by_flag (slot_after b next) bs

-- the slot of the first instance field that a class itself declares, from the tables of all kinds and of those of its own fields
abbrev pub following_slot : List (List SlotKind) → List (List SlotKind) → ℕ → ℕ
following_slot kinds own n = length (unwrap_or (slice_get kinds n) []) - length (unwrap_or (slice_get own n) [])

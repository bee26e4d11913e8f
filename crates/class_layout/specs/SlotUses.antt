-- Which method a virtual call runs, determined by numbers alone: of classes, and of names and signatures (II.10.3, II.12.2).
use Rattle.std.specs.Prelude.{ℕ, ◌==◌, Bool, true, false, ◌&&◌, not, if◌then◌else◌, List, [], ◌∷◌, map, find, slice_get, unwrap_or, Option, Some, None, option_map, option_and_then}
use Rattle.std.specs.List.{position_from}
use Rattle.std.specs.Option.{option_map_or}
use Rattle.cil_model.specs.declared.trees.Tree.{Tree}
use Rattle.cil_model.specs.declared.trees.MethodKind.{MethodKind}
use Rattle.cil_model.specs.declared.trees.MethodKind.TheVariants as NamedKind
use Rattle.name_tables.specs.declared.ids.MethodId.{MethodId}
use Rattle.resolved_code.specs.declared.classes.ResolvedClass.{ResolvedClass}
use Rattle.resolved_code.specs.declared.classes.ResolvedMethod.{ResolvedMethod}
use Rattle.resolved_code.specs.declared.classes.ResolvedKind.{ResolvedKind}
use Rattle.resolved_code.specs.declared.classes.ResolvedKind.TheVariants as KindOf
use Rattle.class_layout.specs.declared.slot_uses.SlotUse.{SlotUse}
use Rattle.class_layout.specs.declared.slot_uses.SlotUse.TheVariants.{Plain, ReuseSlot, NewSlot}
use Rattle.class_layout.specs.Targets.{chain_at, is_implementer}

-- newslot or not (II.10.3.1)
abbrev pub slot_use_by_flag : Bool → SlotUse
slot_use_by_flag true = NewSlot
slot_use_by_flag false = ReuseSlot

-- of a method of the tree
abbrev pub slot_use_of_named : MethodKind → SlotUse
slot_use_of_named (NamedKind.Static code) = Plain
slot_use_of_named (NamedKind.Instance code) = Plain
slot_use_of_named (NamedKind.Virtual is_new_slot code) = slot_use_by_flag is_new_slot
slot_use_of_named (NamedKind.Abstract is_new_slot) = slot_use_by_flag is_new_slot

-- of a method by numbers
abbrev pub slot_use_by_id : ResolvedKind → SlotUse
slot_use_by_id (KindOf.Static body) = Plain
slot_use_by_id (KindOf.Instance body) = Plain
slot_use_by_id (KindOf.Virtual is_new_slot body) = slot_use_by_flag is_new_slot
slot_use_by_id (KindOf.Abstract is_new_slot) = slot_use_by_flag is_new_slot

-- a static method has no object (II.15.4.2)
abbrev pub is_static_by_id : ResolvedKind → Bool
is_static_by_id (KindOf.Static body) = true
is_static_by_id (KindOf.Instance body) = false
is_static_by_id (KindOf.Virtual is_new_slot body) = false
is_static_by_id (KindOf.Abstract is_new_slot) = false

-- the slot use of the first method with a name and signature
abbrev pub slot_use_in : ℕ → List ResolvedMethod → Option SlotUse
slot_use_in i rs = option_map (λ (r : ResolvedMethod). slot_use_by_id r.kind) (find (λ (r : ResolvedMethod). i == r.identity) rs)

-- the index of the first method with a name and signature that has an object
abbrev pub own_index : ℕ → List ResolvedMethod → Option ℕ
own_index i rs = position_from (λ (r : ResolvedMethod). (i == r.identity) && not (is_static_by_id r.kind)) 0 rs

-- the same, in the class of a number
abbrev pub slot_use_at : List ResolvedClass → ℕ → ℕ → Option SlotUse
slot_use_at classes i n = option_and_then (λ (r : ResolvedClass). slot_use_in i r.methods) (slice_get classes n)

abbrev pub own_at : List ResolvedClass → ℕ → ℕ → Option MethodId
own_at classes i n = option_and_then (λ (r : ResolvedClass). option_map (λ index. record { class = n; index = index }) (own_index i r.methods)) (slice_get classes n)

-- a method that fills a slot is virtual
abbrev pub is_virtual_use : SlotUse → Bool
is_virtual_use Plain = false
is_virtual_use ReuseSlot = true
is_virtual_use NewSlot = true

abbrev pub is_virtual_at : List ResolvedClass → ℕ → ℕ → Bool
is_virtual_at classes i n = option_map_or is_virtual_use (slot_use_at classes i n) false

-- a slot is known by the number of the class that introduced it (II.10.3)
abbrev pub slot_by_use : ℕ → Option ℕ → SlotUse → Option ℕ
slot_by_use n inherited Plain = None
slot_by_use n inherited ReuseSlot = Some (unwrap_or inherited n)
slot_by_use n inherited NewSlot = Some n

-- the slot as seen from a class, by the one that it inherits
abbrev pub slot_from : List ResolvedClass → ℕ → ℕ → Option ℕ → Option ℕ
slot_from classes i n inherited = option_map_or (slot_by_use n inherited) (slot_use_at classes i n) inherited

-- the slot that the nearest method along a chain fills
abbrev pub slot_along : List ResolvedClass → ℕ → List ℕ → Option ℕ
slot_along classes i [] = None
slot_along classes i (n ∷ ns) = slot_from classes i n (slot_along classes i ns)

-- the nearest class whose method fills a slot as seen from a class, by what holds as seen from its base
abbrev pub implementation_from : List ResolvedClass → ℕ → ℕ → Bool → Option ℕ → Option ℕ
implementation_from classes i n fills below = if fills then option_map_or (λ (r : SlotUse). Some n) (slot_use_at classes i n) below else below

-- the nearest class of a chain whose method fills a slot
abbrev pub implementation_along : List ResolvedClass → ℕ → ℕ → List ℕ → Option ℕ
implementation_along classes i slot [] = None
implementation_along classes i slot (n ∷ ns) = implementation_from classes i n (option_map_or (λ s. s == slot) (slot_along classes i (n ∷ ns)) false) (implementation_along classes i slot ns)

-- the method that fills along one chain the slot that is known along another
abbrev pub filled_along : List ResolvedClass → ℕ → List ℕ → List ℕ → Option MethodId
filled_along classes i chain introduced = option_and_then (λ slot. option_and_then (own_at classes i) (implementation_along classes i slot chain)) (slot_along classes i introduced)

-- the method that fills the slot of the nearest virtual method, as seen from the nearest class of a chain that lists the interface
abbrev pub listed_implementation : Tree → List ResolvedClass → ℕ → List ℕ → ℕ → Option MethodId
listed_implementation tree classes i chain interface =
    option_and_then (λ implementer. option_and_then (λ found. filled_along classes i chain (chain_at tree found)) (find (is_virtual_at classes i) (chain_at tree implementer)))
    (find (is_implementer (map (λ (r : ResolvedClass). r.interfaces) classes) interface) chain)

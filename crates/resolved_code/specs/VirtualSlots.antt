-- What the methods found by the numbers of classes are, and the slots that they fill (II.10.3), as the rules on names have them.
use Rattle.std.specs.Prelude.{◌≡◌, ℕ, ◌==◌, Bool, false, not, ◌&&◌, ◌||◌, if◌then◌else◌, List, [], ◌∷◌, Option, Some, None, unwrap_or, slice_get}
use Rattle.std.specs.List.{list_any}
use Rattle.std.specs.Option.{option_map_or}
use Rattle.cil_model.specs.declared.types.ClassName.{ClassName}
use Rattle.cil_model.specs.declared.trees.Tree.{Tree}
use Rattle.cil_model.specs.declared.trees.Method.{Method}
use Rattle.cil_model.specs.Declarations.{Declaration}
use Rattle.cil_model.specs.Chains.{is_virtual, is_new_slot_method, is_abstract_method}
use Rattle.name_tables.specs.Sameness.{MethodIdentity, identity_of}
use Rattle.name_tables.specs.Numbers.{declarations, chain_numbers, method_found}

-- the class of a number has a virtual method of this name and signature (II.12.2)
abbrev pub is_virtual_found : Tree → MethodIdentity → ℕ → Bool
is_virtual_found tree k n = option_map_or (λ (m : Method). is_virtual m.kind) (method_found tree k n) false

-- a slot is known by the number of the class that introduced it (II.10.3)
abbrev pub slot_filled_at : ℕ → Option ℕ → Method → Option ℕ
slot_filled_at n inherited m = if is_virtual m.kind then Some (if is_new_slot_method m.kind then n else unwrap_or inherited n) else None

-- the slot as seen from a class, by the one that it inherits (II.10.3)
abbrev pub slot_from_base : Tree → MethodIdentity → ℕ → Option ℕ → Option ℕ
slot_from_base tree k n inherited = option_map_or (slot_filled_at n inherited) (method_found tree k n) inherited

-- the slot that the nearest method of this name and signature along a chain fills (II.10.3)
abbrev pub slot_by_id : Tree → MethodIdentity → List ℕ → Option ℕ
slot_by_id tree k [] = None
slot_by_id tree k (n ∷ ns) = slot_from_base tree k n (slot_by_id tree k ns)

-- whether an abstract method fills a slot as seen from a class, by what holds as seen from its base (II.15.4.2)
abbrev pub abstract_from_base : Tree → MethodIdentity → ℕ → Bool → Bool → Bool
abstract_from_base tree k n fills is_open = if fills then option_map_or (λ (m : Method). is_abstract_method m.kind) (method_found tree k n) is_open else is_open

-- whether the nearest method along a chain that fills the slot is abstract (II.15.4.2)
abbrev pub abstract_by_id : Tree → MethodIdentity → ℕ → List ℕ → Bool
abstract_by_id tree k slot [] = false
abstract_by_id tree k slot (n ∷ ns) = abstract_from_base tree k n (option_map_or (λ s. s == slot) (slot_by_id tree k (n ∷ ns)) false) (abstract_by_id tree k slot ns)

-- whether the slot that is known along one chain is filled by an abstract method along another (II.15.4.2)
abbrev pub is_slot_abstract : Tree → MethodIdentity → List ℕ → List ℕ → Bool
is_slot_abstract tree k chain introduced = option_map_or (λ slot. abstract_by_id tree k slot chain) (slot_by_id tree k introduced) false

-- whether the slot of a virtual method, known along one chain, is filled by an abstract method along another (II.15.4.2)
abbrev pub method_slot_is_abstract : Tree → List ℕ → List ℕ → Method → Bool
method_slot_is_abstract tree chain introduced m = is_virtual m.kind && is_slot_abstract tree (identity_of m) chain introduced

-- whether a slot that the methods of a declared class fill is filled by an abstract method along a chain (II.15.4.2)
abbrev pub entry_has_abstract_slot : Tree → List ℕ → ClassName × Declaration → Bool
entry_has_abstract_slot tree chain e = list_any (method_slot_is_abstract tree chain (chain_numbers tree e.0)) e.1.methods

-- the same of the class of a number (II.15.4.2)
abbrev pub class_has_abstract_slot : Tree → List ℕ → ℕ → Bool
class_has_abstract_slot tree chain n = option_map_or (entry_has_abstract_slot tree chain) (slice_get (declarations tree) n) false

-- a virtual method without newslot fills the slot of the next virtual one after it (II.10.3.1)
abbrev pub is_override : Method → Bool
is_override m = is_virtual m.kind && not (is_new_slot_method m.kind)

-- whether the nearest method of this name and signature is abstract as seen from a class, by what holds as seen from its base (II.15.4.2)
abbrev pub nearest_abstract_from_base : Tree → MethodIdentity → ℕ → Bool → Bool
nearest_abstract_from_base tree k n is_top = option_map_or (λ (m : Method). is_abstract_method m.kind) (method_found tree k n) is_top

-- whether the nearest method of this name and signature along a chain is abstract (II.15.4.2)
abbrev pub is_nearest_abstract : Tree → MethodIdentity → List ℕ → Bool
is_nearest_abstract tree k [] = false
is_nearest_abstract tree k (n ∷ ns) = nearest_abstract_from_base tree k n (is_nearest_abstract tree k ns)

-- whether an abstract method has its next nearer one, which is no override of it, as seen from a class, by what holds as seen from its base
-- (II.10.3.1)
abbrev pub hidden_abstract_from_base : Tree → MethodIdentity → ℕ → Bool → Bool → Bool
hidden_abstract_from_base tree k n is_top is_hidden = option_map_or (λ (m : Method). is_hidden || (not (is_override m) && is_top)) (method_found tree k n) is_hidden

-- whether an abstract method along a chain has its next nearer one, which is no override of it (II.10.3.1)
abbrev pub hides_abstract : Tree → MethodIdentity → List ℕ → Bool
hides_abstract tree k [] = false
hides_abstract tree k (n ∷ ns) = hidden_abstract_from_base tree k n (is_nearest_abstract tree k ns) (hides_abstract tree k ns)

-- whether an abstract method of this name and signature along a chain is not overridden by the next nearer one (II.15.4.2)
abbrev pub stays_abstract : Tree → MethodIdentity → List ℕ → Bool
stays_abstract tree k ns = hides_abstract tree k ns || is_nearest_abstract tree k ns

-- each abstract method along a chain is overridden by the next nearer one (II.15.4.2)
abbrev pub IsDecided : Tree → List ℕ → Type 0
IsDecided tree ns = (k : MethodIdentity) → stays_abstract tree k ns ≡ false

-- whether the nearest method of this name and signature along a chain is not virtual (this profile)
abbrev pub concrete_by_id : Tree → MethodIdentity → List ℕ → Bool
concrete_by_id tree k [] = false
concrete_by_id tree k (n ∷ ns) = option_map_or (λ (m : Method). not (is_virtual m.kind)) (method_found tree k n) (concrete_by_id tree k ns)

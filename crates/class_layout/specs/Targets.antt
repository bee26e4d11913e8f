-- Which method a virtual call runs, determined by numbers (II.10.3, II.12.2; where an interface is listed again, this profile).
use Rattle.std.specs.Prelude.{ℕ, ◌==◌, Bool, false, if◌then◌else◌, List, [], ◌∷◌, map, find, slice_get, unwrap_or, Option, Some, None, option_map, option_and_then}
use Rattle.std.specs.List.{list_any}
use Rattle.std.specs.Option.{option_map_or}
use Rattle.cil_model.specs.declared.types.ClassName.{ClassName}
use Rattle.cil_model.specs.declared.trees.Tree.{Tree}
use Rattle.cil_model.specs.declared.trees.Method.{Method}
use Rattle.cil_model.specs.Declarations.{Declaration}
use Rattle.cil_model.specs.Chains.{methods_declared, is_interface, is_virtual}
use Rattle.name_tables.specs.Sameness.{MethodIdentity, identity_of, same_call_identity, call_identity_of}
use Rattle.name_tables.specs.Numbers.{declarations, class_number, chain_numbers, index_in, method_found}
use Rattle.name_tables.specs.declared.ids.MethodId.{MethodId}
use Rattle.resolved_code.specs.VirtualSlots.{is_virtual_found, slot_by_id}
use Rattle.class_layout.specs.ByClass.{by_class, interface_numbers}
use Rattle.class_layout.specs.declared.targets.Targets.{Targets}
use Rattle.class_layout.specs.declared.targets.Targets.TheVariants.{Itself, ByClass}

-- the numbers of the chain of a class, by its own
abbrev pub chain_at : Tree → ℕ → List ℕ
chain_at tree n = option_map_or (λ (e : ClassName × Declaration). chain_numbers tree e.0) (slice_get (declarations tree) n) []

-- the nearest class whose method fills a slot as seen from a class, by what holds as seen from its base (II.10.3)
abbrev pub implementation_over : Tree → MethodIdentity → ℕ → Bool → Option ℕ → Option ℕ
implementation_over tree k n fills below = if fills then option_map_or (λ (m : Method). Some n) (method_found tree k n) below else below

-- the nearest class of a chain whose method of this name and signature fills the slot (II.10.3)
abbrev pub implementation_by_id : Tree → MethodIdentity → ℕ → List ℕ → Option ℕ
implementation_by_id tree k slot [] = None
implementation_by_id tree k slot (n ∷ ns) = implementation_over tree k n (option_map_or (λ s. s == slot) (slot_by_id tree k (n ∷ ns)) false) (implementation_by_id tree k slot ns)

-- the method of this name and signature that a class declares for its objects
abbrev pub own_method : Tree → MethodIdentity → ℕ → Option MethodId
own_method tree k n = option_map (λ index. record { class = n; index = index }) (index_in (λ d. d.methods) (λ m. same_call_identity (k, false) (call_identity_of m)) tree n)

-- the method that fills along one chain the slot that is known along another (II.10.3)
abbrev pub class_implementation : Tree → MethodIdentity → List ℕ → List ℕ → Option MethodId
class_implementation tree k chain introduced = option_and_then (λ slot. option_and_then (own_method tree k) (implementation_by_id tree k slot chain)) (slot_by_id tree k introduced)

-- whether a class lists an interface itself (II.12.1)
abbrev pub is_implementer : List (List ℕ) → ℕ → ℕ → Bool
is_implementer listed i n = list_any (λ m. m == i) (unwrap_or (slice_get listed n) [])

-- the method that fills the slot of the nearest virtual method, as seen from the nearest class of a chain that lists the interface (II.12.2, this profile)
abbrev pub interface_implementation : Tree → List (List ℕ) → MethodIdentity → List ℕ → ℕ → Option MethodId
interface_implementation tree listed k chain i =
    option_and_then (λ implementer. option_and_then (λ found. class_implementation tree k chain (chain_at tree found)) (find (is_virtual_found tree k) (chain_at tree implementer))) (find (is_implementer listed i) chain)

-- the method that runs where the virtual method of a class or interface with this name and signature is called on an object of a class
abbrev pub target_number : Tree → ClassName → MethodIdentity → ClassName → Option MethodId
target_number tree c k d =
    if is_interface tree c
    then option_and_then (interface_implementation tree (by_class tree (interface_numbers tree)) k (chain_numbers tree d)) (class_number tree c)
    else class_implementation tree k (chain_numbers tree d) (chain_numbers tree c)

-- for each class of objects the method that runs; none for a method that is not virtual
abbrev pub target_row : Tree → ClassName → Method → Option (List (Option MethodId))
target_row tree c m = if is_virtual m.kind then Some (by_class tree (target_number tree c (identity_of m))) else None

-- the rows of the methods that a class itself declares
abbrev pub target_rows : Tree → ClassName → List (Option (List (Option MethodId)))
target_rows tree c = map (target_row tree c) (methods_declared tree c)

-- what an entry of the table holds
abbrev pub targets_of : Targets → Option (List (Option MethodId))
targets_of Itself = None
targets_of (ByClass row) = Some row.items

-- what an entry says of the objects of a class
abbrev pub target_in : ℕ → MethodId → Option (List (Option MethodId)) → Option MethodId
target_in class method None = Some method
target_in class method (Some row) = unwrap_or (slice_get row class) None

-- The cell at a named address has the class of the object, so the same method is chosen for it on both machines.
use Rattle.std.proofs.Common.{◌≡◌, ℕ, Bool, true, false, if◌then◌else◌, List, Option, Some, None, option_map, option_and_then, refl, sym, ap, ◌∙◌, subst}
use Rattle.std.specs.Option.{option_map_or}
use Rattle.interpreter.specs.cil_model.declared.trees.Tree.{Tree}
use Rattle.interpreter.specs.cil_model.declared.trees.Method.{Method}
use Rattle.interpreter.specs.cil_model.declared.types.ClassName.{ClassName}
use Rattle.interpreter.specs.cil_model.Chains.{is_virtual}
use Rattle.interpreter.specs.cil_model.Slots.{target}
use Rattle.interpreter.proofs.cil_model.SameLaws.{if_false}
use Rattle.interpreter.specs.reference_machine.Values.{ObjectName, Born, Literal}
use Rattle.interpreter.specs.reference_machine.States.{Contents, Instance as IsInstance, Array as IsArray, HeapObject, State, class_of, class_of_contents}
use Rattle.interpreter.specs.resolved_code.ById.{class_name}
use Rattle.interpreter.specs.object_memory.declared.addresses.Addr.{Addr}
use Rattle.interpreter.specs.object_memory.declared.kinds.Kind.{Kind}
use Rattle.interpreter.specs.object_memory.declared.kinds.Kind.TheVariants.{Instance, Array}
use Rattle.interpreter.specs.object_memory.Cells.{Cell}
use Rattle.interpreter.specs.object_memory.Objects.{Objects, object_cell}
use Rattle.interpreter.specs.Calls.{class_of_kind, class_at, chosen_by, chosen_method}
use Rattle.simulation.specs.Refines.{Names, IsOfContents, IsBornAt, IsLiteralAt}
use Rattle.simulation.proofs.Memory.MemoryModels.{IsReadable}

-- ---- the class of an object

-- the number of the class, or neither
abbrev pub IsClass : Tree → Option ℕ → Option ClassName → Type 0
IsClass tree None None = Unit {0}
IsClass tree (Some n) (Some c) = class_name tree n ≡ Some c
IsClass tree None (Some c) = ⊥
IsClass tree (Some n) None = ⊥

-- a kind is of the class of the contents that it is of
class_of_kind_is : (tree : Tree) (name : Names) (k : Kind) (slots : List ℕ) (c : Contents) (thread : Option ℕ) → IsOfContents tree name k slots c thread → IsClass tree (class_of_kind k) (class_of_contents c)
class_of_kind_is tree name (Instance class) slots (IsInstance c fields) thread h = h.class_is
class_of_kind_is tree name (Array e) slots (IsArray t elements) thread h = tt
class_of_kind_is tree name _ slots _ thread h = elim h [ ]

-- a method that isn't virtual is its own target
own_target : (tree : Tree) (found : ClassName × Method) (d : ClassName) (b : Bool) → is_virtual found.1.kind ≡ b → target tree d found.0 found.1 ≡ (if b then target tree d found.0 found.1 else Some found)
own_target tree found d true e = refl
own_target tree found d false e = if_false (is_virtual found.1.kind) _ _ e

-- the method that runs for an object of the class, which an array hasn't
abbrev pub method_by : Tree → ClassName × Method → Option ClassName → Option (ClassName × Method)
method_by tree found class = if is_virtual found.1.kind then option_and_then (λ d. target tree d found.0 found.1) class else Some found

chosen_by_is : (tree : Tree) (found : ClassName × Method) (n : Option ℕ) (c : Option ClassName) → IsClass tree n c → chosen_by tree found n ≡ method_by tree found c
chosen_by_is tree found None None h = refl
chosen_by_is tree found (Some n) (Some d) h = ap (option_and_then (λ x. target tree x found.0 found.1)) h ∙ own_target tree found d (is_virtual found.1.kind) refl
chosen_by_is tree found _ _ h = elim h [ ]

module _ (tree : Tree) (name : Names) (o : Objects) (s : State) (heap : IsReadable tree name o s) where
  -- what lies at an object's address is of its class
  pub class_at_named : (a : Addr) (n : ObjectName) → name a.number ≡ Some n → (class : Option ℕ) × (class_at o a ≡ Some class) × IsClass tree class (class_of s n)
  class_at_named a (Born n) is =
      let at : IsBornAt tree name o s a.number n = heap.born a.number n is in
      let own : class_of s (Born n) ≡ class_of_contents at.object.contents = ap (option_and_then (λ (x : HeapObject). class_of_contents x.contents)) at.is in (
        class_of_kind at.cell.kind,
        ap (λ l. option_map_or (λ k. Some (Some 1)) l (option_map (λ (c : Cell). class_of_kind c.kind) (object_cell o a))) at.no_literal ∙ ap (option_map (λ (c : Cell). class_of_kind c.kind)) at.lies,
        subst (IsClass tree (class_of_kind at.cell.kind)) (sym own) (class_of_kind_is tree name at.cell.kind at.cell.slots at.object.contents at.object.thread at.refines.contents),
      )
  class_at_named a (Literal characters) is =
      let at : IsLiteralAt tree o s a.number characters = heap.literals a.number characters is in
      (Some 1, ap (λ l. option_map_or (λ k. Some (Some 1)) l (option_map (λ (c : Cell). class_of_kind c.kind) (object_cell o a))) at.has_id, refl)

  -- the method that is chosen for the address is the one that runs for the object
  pub chosen_is : (found : ClassName × Method) (a : Addr) (n : ObjectName) → name a.number ≡ Some n → chosen_method tree o a found ≡ method_by tree found (class_of s n)
  chosen_is found a n is =
      let class = class_at_named a n is in
      ap (option_and_then (chosen_by tree found)) class.1 ∙ chosen_by_is tree found class.0 (class_of s n) class.2

-- The cell at a named address has the type of the object of that name.
use Rattle.std.proofs.Common.{◌≡◌, ℕ, true, if◌then◌else◌, List, Option, Some, option_map, option_and_then, refl, sym, ap, ◌∙◌}
use Rattle.std.specs.Option.{option_map_or}
use Rattle.interpreter.specs.cil_model.declared.trees.Tree.{Tree}
use Rattle.interpreter.specs.cil_model.declared.types.DeclaredType.{DeclaredType}
use Rattle.interpreter.specs.cil_model.declared.types.Element.TheVariants.{String}
use Rattle.interpreter.specs.cil_model.Assignable.{array_of, type_of_class, is_assignable}
use Rattle.interpreter.specs.cil_model.Declarations.{plain}
use Rattle.interpreter.specs.reference_machine.Values.{ObjectName, Born, Literal, Value as StateValue}
use Rattle.interpreter.specs.reference_machine.States.{Contents, Instance as IsInstance, Array as IsArray, HeapObject, Frame as StateFrame, State, type_of, type_of_contents}
use Rattle.interpreter.specs.reference_machine.Effects.{StepContext}
use Rattle.interpreter.specs.reference_machine.Steps.{may_hold}
use Rattle.interpreter.specs.resolved_code.ById.{type_at}
use Rattle.interpreter.specs.resolved_code.declared.types.ResolvedType.{ResolvedType}
use Rattle.interpreter.specs.object_memory.declared.addresses.Addr.{Addr}
use Rattle.interpreter.specs.object_memory.declared.kinds.Kind.{Kind}
use Rattle.interpreter.specs.object_memory.declared.kinds.Kind.TheVariants.{Instance, Array}
use Rattle.interpreter.specs.object_memory.declared.values.Value.{Value}
use Rattle.interpreter.specs.object_memory.Cells.{Cell}
use Rattle.interpreter.specs.object_memory.Objects.{Objects, object_cell}
use Rattle.interpreter.specs.instructions.TypeTransitions.{type_of_kind, type_of_address, may_be_used, may_be_used_as}
use Rattle.simulation.specs.Refines.{Names, IsValue, reference, IsOfContents, IsBornAt, IsLiteralAt}
use Rattle.simulation.proofs.Memory.NamedAddresses.{named_is_not_null}
use Rattle.simulation.proofs.Memory.MemoryModels.{IsReadable}

-- ---- the type of an object

-- a kind is of the type of the contents that it is of
type_of_kind_is : (tree : Tree) (name : Names) (k : Kind) (slots : List ℕ) (c : Contents) (thread : Option ℕ) → IsOfContents tree name k slots c thread → type_of_kind tree k ≡ Some (type_of_contents c)
type_of_kind_is tree name (Instance class) slots (IsInstance c fields) thread h = ap (option_map type_of_class) h.class_is
type_of_kind_is tree name (Array e) slots (IsArray t elements) thread h = ap (option_map array_of) h.0
type_of_kind_is tree name _ slots _ thread h = elim h [ ]

module _ (tree : Tree) (name : Names) (o : Objects) (s : State) (heap : IsReadable tree name o s) where
  -- what lies at an object's address is of its type
  pub type_of_named : (a : Addr) (n : ObjectName) → name a.number ≡ Some n → type_of_address tree o a ≡ type_of s n
  type_of_named a (Born n) is =
      let at : IsBornAt tree name o s a.number n = heap.born a.number n is in
      ap (λ l. option_map_or (λ k. Some (plain String)) l (option_and_then (λ (c : Cell). type_of_kind tree c.kind) (object_cell o a))) at.no_literal ∙
      ap (option_and_then (λ (c : Cell). type_of_kind tree c.kind)) at.lies ∙
      type_of_kind_is tree name at.cell.kind at.cell.slots at.object.contents at.object.thread at.refines.contents ∙
      sym (ap (option_map (λ (x : HeapObject). type_of_contents x.contents)) at.is)
  type_of_named a (Literal characters) is =
      let at : IsLiteralAt tree o s a.number characters = heap.literals a.number characters is in
      ap (λ l. option_map_or (λ k. Some (plain String)) l (option_and_then (λ (c : Cell). type_of_kind tree c.kind) (object_cell o a))) at.has_id

-- ---- what may be given where a type is required

module _ (here : StepContext) (name : Names) (o : Objects) (s : State) (f : StateFrame) (below : List StateFrame) (heap : IsReadable here.tree name o s) where
  -- a value may stand where the one that it represents may
  may_be_used_is : (v : Value) (u : StateValue) (t : DeclaredType) → IsValue name v u → may_be_used here.tree o v t ≡ may_hold here s f below t u
  may_be_used_is v u t (reference a n is) =
      ap (λ b. if b then Some true else option_map (λ own. is_assignable here.tree own t) (type_of_address here.tree o a)) (named_is_not_null here.tree name o s heap a.number n is) ∙
      ap (option_map (λ own. is_assignable here.tree own t)) (type_of_named here.tree name o s heap a n is)
  may_be_used_is v u t _ = refl

  -- the same of a type by its number
  pub may_be_used_as_is : (v : Value) (u : StateValue) (t : DeclaredType) (n : ResolvedType) → type_at here.tree n ≡ Some t → IsValue name v u → may_be_used_as here.tree o v n ≡ may_hold here s f below t u
  may_be_used_as_is v u t n has_id h = ap (option_and_then (may_be_used here.tree o v)) has_id ∙ may_be_used_is v u t h

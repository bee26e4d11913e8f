-- What casts and stores of references do, by the classes of objects (III.4.3, III.4.6, III.4.27). A rule has no result where an operand
-- is missing or of another kind, or where there is no such object or type: no verified program comes there.
use Rattle.std.specs.Prelude.{ℕ, ◌==◌, Bool, true, if◌then◌else◌, length, Option, Some, None, option_map, option_and_then}
use Rattle.std.specs.Option.{option_map_or}
use Rattle.cil_model.specs.declared.types.DeclaredType.{DeclaredType}
use Rattle.cil_model.specs.declared.types.Element.TheVariants.{String as StringElement}
use Rattle.cil_model.specs.declared.instructions.ElementKind.{ElementKind}
use Rattle.cil_model.specs.declared.instructions.ElementKind.TheVariants as kinds
use Rattle.cil_model.specs.declared.phases.Phase.{Phase}
use Rattle.cil_model.specs.declared.trees.Tree.{Tree}
use Rattle.cil_model.specs.declared.reports.Fault.TheVariants.{InvalidCast, ArrayTypeMismatch}
use Rattle.cil_model.specs.Declarations.{plain}
use Rattle.cil_model.specs.Assignable.{array_of, type_of_class, is_assignable}
use Rattle.resolved_code.specs.ById.{class_name, type_at}
use Rattle.resolved_code.specs.declared.types.ResolvedElement.{ResolvedElement}
use Rattle.resolved_code.specs.declared.types.ResolvedElement.TheVariants.{Int32 as ResolvedInt32, Int64 as ResolvedInt64, Object as ResolvedObject, String as ResolvedString, Class as ClassById}
use Rattle.resolved_code.specs.declared.types.ResolvedType.{ResolvedType}
use Rattle.object_memory.specs.declared.addresses.Addr.{Addr}
use Rattle.object_memory.specs.declared.kinds.ArrayElement.{ArrayElement}
use Rattle.object_memory.specs.declared.kinds.ElementType.{ElementType}
use Rattle.object_memory.specs.declared.kinds.ElementType.TheVariants.{Int32, Int64, Object, String, Class}
use Rattle.object_memory.specs.declared.kinds.Kind.{Kind}
use Rattle.object_memory.specs.declared.kinds.Kind.TheVariants.{Instance, Array}
use Rattle.object_memory.specs.declared.values.Value.{Value}
use Rattle.object_memory.specs.declared.values.Value.TheVariants.{Ref}
use Rattle.object_memory.specs.Cells.{Cell, literal_number}
use Rattle.object_memory.specs.Objects.{Objects, object_cell}
use Rattle.threads_monitors.specs.Frames.{Frames}
use Rattle.threads_monitors.specs.declared.effects.Effect.TheVariants.{Raises}
use Rattle.instructions.specs.Frames.{when_some, with_top, value_pushed}
use Rattle.instructions.specs.ObjectTransitions.{ObjectTransition, with_objects, object_of, index_of, slots_of, checked_index, in_range, store_slot, store_element_transition}

-- ---- the types of objects

-- a type without brackets, by the number of its class
abbrev pub resolved_element : ElementType → ResolvedElement
resolved_element Int32 = ResolvedInt32
resolved_element Int64 = ResolvedInt64
resolved_element Object = ResolvedObject
resolved_element String = ResolvedString
resolved_element (Class c) = ClassById c

-- what an array holds
abbrev pub held_type : ArrayElement → ResolvedType
held_type a = record { element = resolved_element a.element; brackets = a.brackets }

-- the type of an object
abbrev pub type_of_kind : Tree → Kind → Option DeclaredType
type_of_kind tree (Instance c) = option_map type_of_class (class_name tree c)
type_of_kind tree (Array a) = option_map array_of (type_at tree (held_type a))

-- of what lies at an address: a literal is a string
abbrev pub type_of_address : Tree → Objects → Addr → Option DeclaredType
type_of_address tree o a =
    option_map_or (λ n. Some (plain StringElement)) (literal_number a) (option_and_then (λ (c : Cell). type_of_kind tree c.kind) (object_cell o a))

-- whether a reference may stand where the type is required: null may everywhere
abbrev pub may_be_used : Tree → Objects → Value → DeclaredType → Option Bool
may_be_used tree o (Ref a) t = if a.number == 0 then Some true else option_map (λ own. is_assignable tree own t) (type_of_address tree o a)
may_be_used tree o _ t = None

-- the same of a type by its number
abbrev pub may_be_used_as : Tree → Objects → Value → ResolvedType → Option Bool
may_be_used_as tree o v to = option_and_then (may_be_used tree o v) (type_at tree to)

-- ---- instructions

-- what castclass and isinst do with an object of another class
abbrev pub cast_transition : Tree → (Frames → Objects → ObjectTransition) → ResolvedType → Frames → Objects → ObjectTransition
cast_transition tree otherwise to m o = with_top m (λ v n. when_some (may_be_used_as tree o v to) (λ holds.
    if holds then with_objects o (value_pushed v n) else otherwise n o))

-- castclass (III.4.3)
abbrev pub cast_class_transition : Tree → ResolvedType → Frames → Objects → ObjectTransition
cast_class_transition tree to m o = cast_transition tree (λ n p. Some (n, p, Raises InvalidCast)) to m o

-- isinst (III.4.6)
abbrev pub is_instance_transition : Tree → ResolvedType → Frames → Objects → ObjectTransition
is_instance_transition tree to m o = cast_transition tree (λ n p. with_objects p (value_pushed (Ref (record { number = 0 })) n)) to m o

-- what an array holds, of an object of this kind
abbrev pub element_in : Kind → Option ArrayElement
element_in (Instance class) = None
element_in (Array a) = Some a

-- what the array at an address holds
abbrev pub element_at : Objects → Addr → Option ArrayElement
element_at o a = option_and_then (λ (c : Cell). element_in c.kind) (object_cell o a)

-- stores to an element that is there what the array's own elements admit
abbrev pub store_admitted : Phase → Tree → Value → ℕ → Addr → Frames → Objects → ObjectTransition
store_admitted phase tree v slot a m o = when_some (element_at o a) (λ e. when_some (may_be_used_as tree o v (held_type e)) (λ holds.
    if holds then store_slot phase v slot a m o else Some (m, o, Raises ArrayTypeMismatch)))

-- stelem.ref (III.4.27): the index is checked before the class
abbrev pub store_reference_transition : Phase → Tree → Frames → Objects → ObjectTransition
store_reference_transition phase tree m o = with_top m (λ v n. with_top n (λ index k. with_top k (λ array j. object_of array j o (λ a. index_of index (λ i. when_some (slots_of o a) (λ slots.
    in_range (checked_index i (length slots)) j o (λ slot. store_admitted phase tree v slot a j o)))))))

-- a store to an element, by what the elements are
abbrev pub element_store_transition : Phase → Tree → ElementKind → Frames → Objects → ObjectTransition
element_store_transition phase tree kinds.Reference m o = store_reference_transition phase tree m o
element_store_transition phase tree kind m o = store_element_transition phase m o

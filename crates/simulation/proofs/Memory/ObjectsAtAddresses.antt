-- The object or the array at a named address, and the cell at that address.
use Rattle.std.proofs.Common.{◌≡◌, ℕ, List, Option, Some, None, option_and_then, slice_get, refl, sym, ap, ◌∙◌, subst}
use Rattle.std.proofs.lemmas.Option.{same_Some}
use Rattle.interpreter.specs.cil_model.declared.types.ClassName.{ClassName}
use Rattle.interpreter.specs.cil_model.declared.types.DeclaredType.{DeclaredType}
use Rattle.interpreter.specs.cil_model.declared.trees.Tree.{Tree}
use Rattle.interpreter.specs.cil_model.Fields.{FieldKey}
use Rattle.interpreter.specs.reference_machine.Values.{ObjectName, Born, Literal, Value as StateValue}
use Rattle.interpreter.specs.reference_machine.States.{Contents, Instance as IsInstance, Array as IsArray, HeapObject, State, object_at, elements_of_contents, array_at}
use Rattle.interpreter.specs.instructions.TypeTransitions.{held_type}
use Rattle.interpreter.specs.resolved_code.ById.{type_at}
use Rattle.interpreter.specs.object_memory.declared.addresses.Addr.{Addr}
use Rattle.interpreter.specs.object_memory.declared.kinds.Kind.{Kind}
use Rattle.interpreter.specs.object_memory.declared.kinds.Kind.TheVariants.{Instance, Array}
use Rattle.interpreter.specs.object_memory.declared.kinds.ArrayElement.{ArrayElement}
use Rattle.interpreter.specs.object_memory.Cells.{Cell}
use Rattle.interpreter.specs.object_memory.Objects.{Objects, object_cell}
use Rattle.simulation.specs.Agreement.{Agree}
use Rattle.simulation.specs.Refines.{Names, IsWord, IsInstanceCell, IsOfContents, IsCell, IsBornAt}
use Rattle.interpreter.proofs.cil_model.Lists.{none_is_some}
use Rattle.simulation.proofs.Memory.MemoryModels.{IsReadable}
use Rattle.simulation.proofs.Memory.ReferenceSlots.{IsLinked, typed_is_linked}
use Rattle.interpreter.specs.cil_model.Legality.{IsLegal}
use Rattle.interpreter.specs.reference_machine.TypedStates.{IsTyped}

module _ (tree : Tree) (name : Names) (o : Objects) (s : State) (h : IsReadable tree name o s) where
  -- ---- the object of a name

  -- an object that is there has a cell
  pub record IsThere (a : Addr) (n : ObjectName) (object : HeapObject) : Type 0 where
    pub number : ℕ
    pub name_is : n ≡ Born number
    pub there : slice_get s.objects number ≡ Some object
    pub cell : Cell
    pub lies : object_cell o a ≡ Some cell
    pub refines : IsCell tree name cell object

  -- each object that is there has one
  pub thing_there : (a : Addr) (n : ObjectName) (object : HeapObject) → name a.number ≡ Some n → object_at s n ≡ Some object → IsThere a n object
  thing_there a (Literal characters) object named there = none_is_some object there
  thing_there a (Born number) object named there =
      let born : IsBornAt tree name o s a.number number = h.born a.number number named in
      record {
        number = number;
        name_is = refl;
        there = there;
        cell = born.cell;
        lies = born.lies;
        refines = subst (λ x. IsCell tree name born.cell x) (same_Some born.object object (sym born.is ∙ there)) born.refines;
      }

  -- its slots hold references where its values are
  pub there_is_linked : IsLegal tree → IsTyped tree s → (a : Addr) (n : ObjectName) (object : HeapObject) → (thing : IsThere a n object) → IsLinked tree thing.cell.kind object.contents
  there_is_linked legal typed a n object thing =
      typed_is_linked tree legal s name thing.cell.kind thing.cell.slots object.contents object.thread (typed.objects thing.number object thing.there) thing.refines.contents

  -- ---- arrays

  -- an array with its elements
  pub record IsArrayThere (a : Addr) (n : ObjectName) (t : DeclaredType) (elements : List StateValue) : Type 0 where
    pub object : HeapObject
    pub holds : object.contents ≡ IsArray t elements
    pub thing : IsThere a n object
    pub kind : ArrayElement
    pub kind_is : thing.cell.kind ≡ Array kind
    pub type_is : type_at tree (held_type kind) ≡ Some t
    pub values : Agree (IsWord name) thing.cell.slots elements

  -- an array that the reference machine finds is there
  pub array_there : (a : Addr) (n : ObjectName) (t : DeclaredType) (elements : List StateValue) → name a.number ≡ Some n → array_at s n ≡ Some (t, elements) → IsArrayThere a n t elements
  array_there a n t elements named held = by_object (object_at s n) refl held
    where
      by_kind : (object : HeapObject) → object.contents ≡ IsArray t elements → (thing : IsThere a n object) → (k : Kind) → thing.cell.kind ≡ k → IsOfContents tree name k thing.cell.slots (IsArray t elements) object.thread → IsArrayThere a n t elements
      by_kind object holds thing (Array e) is refines = record { object = object; holds = holds; thing = thing; kind = e; kind_is = is; type_is = refines.0; values = refines.1 }
      by_kind object holds thing (Instance c) is refines = elim refines [ ]

      with_thing : (object : HeapObject) → object.contents ≡ IsArray t elements → IsThere a n object → IsArrayThere a n t elements
      with_thing object holds thing = by_kind object holds thing thing.cell.kind refl (subst (λ c. IsOfContents tree name thing.cell.kind thing.cell.slots c object.thread) holds thing.refines.contents)

      by_contents : (object : HeapObject) → object_at s n ≡ Some object → (c : Contents) → object.contents ≡ c → elements_of_contents c ≡ Some (t, elements) → IsArrayThere a n t elements
      by_contents object there (IsInstance c fields) holds e = none_is_some (t, elements) e
      by_contents object there (IsArray u es) holds e =
          let pairs : (u, es) ≡ (t, elements) = same_Some (u, es) (t, elements) e in
          with_thing object (holds ∙ ap (λ (p : DeclaredType × List StateValue). IsArray p.0 p.1) pairs) (thing_there a n object named there)

      by_object : (x : Option HeapObject) → object_at s n ≡ x → option_and_then (λ (object : HeapObject). elements_of_contents object.contents) x ≡ Some (t, elements) → IsArrayThere a n t elements
      by_object None there e = none_is_some (t, elements) e
      by_object (Some object) there e = by_contents object there object.contents refl e

  -- ---- objects of classes

  -- an object with its fields
  pub record IsInstanceThere (a : Addr) (n : ObjectName) (c : ClassName) (fields : List (FieldKey × StateValue)) (object : HeapObject) : Type 0 where
    pub thing : IsThere a n object
    pub kind : ℕ
    pub kind_is : thing.cell.kind ≡ Instance kind
    pub contents : IsInstanceCell tree name kind thing.cell.slots c fields object.thread

  -- so is an object of a class
  pub instance_there : (a : Addr) (n : ObjectName) (c : ClassName) (fields : List (FieldKey × StateValue)) (object : HeapObject) → name a.number ≡ Some n → object_at s n ≡ Some object → object.contents ≡ IsInstance c fields → IsInstanceThere a n c fields object
  instance_there a n c fields object named there holds = with_thing (thing_there a n object named there)
    where
      by_kind : (thing : IsThere a n object) → (k : Kind) → thing.cell.kind ≡ k → IsOfContents tree name k thing.cell.slots (IsInstance c fields) object.thread → IsInstanceThere a n c fields object
      by_kind thing (Instance number) is refines = record { thing = thing; kind = number; kind_is = is; contents = refines }
      by_kind thing (Array e) is refines = elim refines [ ]

      with_thing : IsThere a n object → IsInstanceThere a n c fields object
      with_thing thing = by_kind thing thing.cell.kind refl (subst (λ x. IsOfContents tree name thing.cell.kind thing.cell.slots x object.thread) holds thing.refines.contents)

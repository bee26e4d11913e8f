-- A named address is not null; and a heap that represents the objects of a state represents them whatever the state's threads are.
use Rattle.std.proofs.Common.{◌≡◌, ◌==◌, ℕ, zero, suc, false, List, Some, slice_get, refl, sym, ap, ◌∙◌, subst, arith}
use Rattle.std.proofs.lemmas.Bool.Decides.{nat_tests}
use Rattle.interpreter.specs.cil_model.declared.trees.Tree.{Tree}
use Rattle.interpreter.specs.cil_model.Fields.{FieldKey}
use Rattle.interpreter.specs.cil_model.Same.{same_text}
use Rattle.interpreter.specs.reference_machine.Values.{ObjectName, Value as StateValue}
use Rattle.interpreter.specs.reference_machine.States.{State, entry_at}
use Rattle.interpreter.specs.object_memory.declared.values.Value.{Value}
use Rattle.interpreter.specs.object_memory.Objects.{Objects}
use Rattle.simulation.specs.Agreement.{Agree}
use Rattle.simulation.specs.Refines.{Names, IsValue, IsOfContents, IsBornAt, IsLiteralAt, IsHeap, IsMemory}
use Rattle.simulation.proofs.Memory.MemoryModels.{IsReadable}
use Rattle.interpreter.proofs.cil_model.Lists.{none_is_some}

module _ (tree : Tree) (name : Names) (o : Objects) (s : State) (heap : IsReadable tree name o s) where
  -- the address of an object isn't null
  pub named_is_not_null : (a : ℕ) (n : ObjectName) → name a ≡ Some n → (a == 0) ≡ false
  named_is_not_null zero n is = none_is_some n (sym heap.null_unnamed ∙ is)
  named_is_not_null (suc a) n is = grind (arith, nat_tests)

-- a literal keeps its name where its monitor is the same on both machines
pub literal_beside : (tree : Tree) (o o' : Objects) (s s' : State) → o'.literals ≡ o.literals → s'.literal_monitors ≡ s.literal_monitors → (a : ℕ) (characters : List ℕ) → IsLiteralAt tree o s a characters → IsLiteralAt tree o' s' a characters
literal_beside tree o o' s s' same same' a characters l = record {
  number = l.number;
  has_id = l.has_id;
  is = l.is;
  monitor = l.monitor;
  held = ap (λ ms. slice_get ms l.number) same ∙ l.held;
  state_monitor = l.state_monitor;
  state_held = ap (entry_at same_text characters) same' ∙ l.state_held;
  refines = l.refines;
}

-- an object lies at its address under other names that its contents stand under
pub born_renamed : (tree : Tree) (name name' : Names) (o : Objects) (s : State) (a n : ℕ) (b : IsBornAt tree name o s a n) → IsOfContents tree name' b.cell.kind b.cell.slots b.object.contents b.object.thread → IsBornAt tree name' o s a n
born_renamed tree name name' o s a n b contents =
    record { no_literal = b.no_literal; cell = b.cell; lies = b.lies; object = b.object; is = b.is; refines = record { contents = contents; monitor = b.refines.monitor } }

module _ (tree : Tree) (name : Names) (o : Objects) (s s' : State) (objects : s'.objects ≡ s.objects) (monitors : s'.literal_monitors ≡ s.literal_monitors) where
  -- a heap is the same beside other threads, static fields and printed bytes
  pub heap_beside : IsHeap tree name o s → IsHeap tree name o s'
  heap_beside h = record {
    null_unnamed = h.null_unnamed;
    small = h.small;
    names = h.names;
    born = λ a n named. let b = h.born a n named in record { no_literal = b.no_literal; cell = b.cell; lies = b.lies; object = b.object; is = ap (λ os. slice_get os n) objects ∙ b.is; refines = b.refines };
    literals = λ a characters named. literal_beside tree o o s s' refl monitors a characters (h.literals a characters named);
    each_literal = h.each_literal;
  }

  -- a memory is the same beside other threads
  pub memory_beside : s'.statics ≡ s.statics → s'.printed ≡ s.printed → (statics : List Value) (printed : List ℕ) → IsMemory tree name o statics printed s → IsMemory tree name o statics printed s'
  memory_beside same same' statics printed h = record {
    heap = heap_beside h.heap;
    static_values = subst (Agree (λ v (f : FieldKey × StateValue). IsValue name v f.1) statics) (sym same) h.static_values;
    printed_is = h.printed_is ∙ sym same';
  }

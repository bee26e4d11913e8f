-- The cell at the address of an object that may have a thread of its own.
use Rattle.std.proofs.Common.{◌≡◌, ◌⊎◌, ℕ, Bool, true, false, if◌then◌else◌, List, [], ◌∷◌, ◌++◌, Option, Some, None, option_map, option_and_then, unwrap_or, slice_get, refl, inl, inr, ap, ◌∙◌, subst}
use Rattle.std.specs.Prelude.{slice_index}
use Rattle.std.specs.Option.{option_map_or}
use Rattle.interpreter.specs.cil_model.declared.trees.Tree.{Tree}
use Rattle.interpreter.specs.cil_model.declared.types.ClassName.{ClassName}
use Rattle.interpreter.specs.cil_model.Chains.{is_thread_class}
use Rattle.interpreter.specs.cil_model.Declarations.{string_name}
use Rattle.interpreter.specs.cil_model.Fields.{FieldKey}
use Rattle.interpreter.specs.reference_machine.Values.{ObjectName, Born, Literal, Value as StateValue, Null, Reference}
use Rattle.interpreter.specs.reference_machine.States.{Contents, Instance as IsInstance, Array as IsArray, HeapObject, Frame as StateFrame, State, object_at, class_of, class_of_contents}
use Rattle.interpreter.specs.reference_machine.Effects.{StepContext, Effect as StateEffect, Sticks, when_some}
use Rattle.interpreter.specs.reference_machine.BuiltIn.{thread_object}
use Rattle.interpreter.proofs.reference_machine.TypedStates.RunningFrames.{IsTypedEffect}
use Rattle.interpreter.specs.resolved_code.ById.{class_name}
use Rattle.interpreter.specs.object_memory.declared.addresses.Addr.{Addr}
use Rattle.interpreter.specs.object_memory.declared.kinds.Kind.{Kind}
use Rattle.interpreter.specs.object_memory.declared.kinds.Kind.TheVariants.{Instance, Array}
use Rattle.interpreter.specs.object_memory.declared.values.Value.{Value}
use Rattle.interpreter.specs.object_memory.declared.values.Value.TheVariants.{Ref}
use Rattle.interpreter.specs.object_memory.Cells.{Cell, literal_number, null}
use Rattle.interpreter.specs.object_memory.Objects.{Objects, object_cell}
use Rattle.interpreter.specs.threads_monitors.Threads.{thread_decoded, thread_on}
use Rattle.interpreter.specs.Calls.{class_at, class_of_kind}
use Rattle.simulation.specs.Agreement.{Agree}
use Rattle.simulation.specs.Refines.{Names, IsValue, null_reference, reference, IsWord, IsMonitor, thread_word, IsOfContents, IsBornAt}
use Rattle.simulation.proofs.Memory.MemoryModels.{IsReadable}

-- an address represents null, or the object that it names
pub reference_is : (name : Names) (v : Value) (u : StateValue) → IsValue name v u → (a : Addr) → v ≡ Ref a → ((a ≡ null) × (u ≡ Null)) ⊎ ((n : ObjectName) × (u ≡ Reference n) × (name a.number ≡ Some n))
reference_is name v u null_reference a e = let same : a ≡ null = cc in inl (same, refl)
reference_is name v u (reference b n is) a e = let same : b ≡ a = cc in inr (n, refl, subst (λ (x : Addr). name x.number ≡ Some n) same is)
reference_is name v u _ a e = absurd cc

-- an object of a class of threads, with its thread in the first slot
pub record IsThreadObject (tree : Tree) (name : Names) (o : Objects) (s : State) (a : Addr) (number : ℕ) : Type 0 where
  pub no_literal : literal_number a ≡ None
  pub cell : Cell
  pub lies : object_cell o a ≡ Some cell
  pub object : HeapObject
  pub is : slice_get s.objects number ≡ Some object
  pub class : ℕ
  pub kind : cell.kind ≡ Instance class
  pub own : ClassName
  pub class_is : class_name tree class ≡ Some own
  pub is_thread : is_thread_class tree own ≡ true
  pub fields : List (FieldKey × StateValue)
  pub contents : object.contents ≡ IsInstance own fields
  pub words : List ℕ
  pub slots : cell.slots ≡ thread_word object.thread ∷ words
  pub values : Agree (λ w (f : FieldKey × StateValue). IsWord name w f.1) words fields
  pub monitor : IsMonitor cell.monitor object.monitor

decoded : (o : Option ℕ) → thread_decoded (thread_word o) ≡ o
decoded None = refl
decoded (Some n) = refl

module _ (tree : Tree) (name : Names) (o : Objects) (s : State) (a : Addr) (number : ℕ) (x : IsThreadObject tree name o s a number) where
  pub thread_on_is : thread_on o a ≡ x.object.thread
  thread_on_is =
      ap (λ c. thread_decoded (slice_index (unwrap_or (option_map (λ (y : Cell). y.slots) c) []) 0)) x.lies ∙
      ap (λ l. thread_decoded (slice_index l 0)) x.slots ∙ decoded x.object.thread

  pub class_at_is : class_at o a ≡ Some (Some x.class)
  class_at_is =
      ap (λ l. option_map_or (λ n. Some (Some 1)) l (option_map (λ (c : Cell). class_of_kind c.kind) (object_cell o a))) x.no_literal ∙
      ap (option_map (λ (c : Cell). class_of_kind c.kind)) x.lies ∙ ap (λ k. Some (class_of_kind k)) x.kind

  pub own_class_is : class_of s (Born number) ≡ Some x.own
  own_class_is = ap (option_and_then (λ (y : HeapObject). class_of_contents y.contents)) x.is ∙ ap class_of_contents x.contents

-- what is asked of a thread's object, where it isn't stuck, is asked of an object of a class of threads
module _ (here : StepContext) (s : State) (f : StateFrame) (below : List StateFrame) (name : Names) (o : Objects) (heap : IsReadable here.tree name o s) (a : Addr) (go : HeapObject → StateEffect) where
  abbrev pub IsAsked : ObjectName → Type 0
  IsAsked n = (number : ℕ) × (n ≡ Born number) × (x : IsThreadObject here.tree name o s a number) × (thread_object here s f below n go ≡ go x.object)

  pub thread_object_is : (n : ObjectName) → name a.number ≡ Some n → IsTypedEffect here.tree (thread_object here s f below n go) → IsAsked n
  thread_object_is (Literal characters) named typed = by_test (is_thread_class here.tree string_name) typed
    where
      by_test : (b : Bool) → IsTypedEffect here.tree (if b then Sticks else Sticks) → IsAsked (Literal characters)
      by_test true t = elim t [ ]
      by_test false t = elim t [ ]
  thread_object_is (Born k) named typed =
      by_contents born.object.contents born.cell.kind refl refl born.refines.contents
      (subst (λ x. IsTypedEffect here.tree (when_some (option_and_then (λ (y : HeapObject). class_of_contents y.contents) x) asked)) born.is typed)
    where
      born : IsBornAt here.tree name o s a.number k
      born = heap.born a.number k named

      asked : ClassName → StateEffect
      asked d = if is_thread_class here.tree d then when_some (object_at s (Born k)) go else Sticks

      by_contents : (contents : Contents) (kind : Kind) → born.object.contents ≡ contents → born.cell.kind ≡ kind → IsOfContents here.tree name kind born.cell.slots contents born.object.thread →
          IsTypedEffect here.tree (when_some (class_of_contents contents) asked) → IsAsked (Born k)
      by_contents (IsArray e elements) kind is kind_is h t = elim t [ ]
      by_contents (IsInstance d fields) (Array e) is kind_is h t = elim h [ ]
      by_contents (IsInstance d fields) (Instance class) is kind_is h t = by_test (is_thread_class here.tree d) refl t
        where
          by_test : (b : Bool) → is_thread_class here.tree d ≡ b → IsTypedEffect here.tree (if b then when_some (object_at s (Born k)) go else Sticks) → IsAsked (Born k)
          by_test false test t' = elim t' [ ]
          by_test true test t' = (
            k,
            refl,
            record {
              no_literal = born.no_literal;
              cell = born.cell;
              lies = born.lies;
              object = born.object;
              is = born.is;
              class = class;
              kind = kind_is;
              own = d;
              class_is = h.class_is;
              is_thread = test;
              fields = fields;
              contents = is;
              words = h.words;
              slots = h.slots_are ∙ ap (λ b. (if b then thread_word born.object.thread ∷ [] else []) ++ h.words) test;
              values = h.values;
              monitor = born.refines.monitor;
            },
            ap (λ x. when_some x asked) (ap (option_and_then (λ (y : HeapObject). class_of_contents y.contents)) born.is ∙ ap class_of_contents is) ∙
                ap (λ b. if b then when_some (object_at s (Born k)) go else Sticks) test ∙ ap (λ x. when_some x go) born.is,
          )
